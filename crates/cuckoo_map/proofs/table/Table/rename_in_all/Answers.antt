use Rattle.std.proofs.Common.{rules, ◌≡◌, ◌∙◌, ℕ, List, [], ◌∷◌, sym, ap, subst}
use Rattle.ck_model.specs.declared.history.Reply.TheVariants.{Closed}
use Rattle.ck_model.specs.Promise.{Name}
use Rattle.ck_section.specs.Calls.{IsWithoutRoom}
use Rattle.ck_section.specs.Places.{HasBoth}
use Rattle.ck_section.proofs.Kept.{has_both}
use Rattle.ck_core.specs.State.{found_held}
use Rattle.ck_words.specs.declared.stripe_set.StripeSet.{StripeSet}
use Rattle.ck_words.specs.Words.{WordsState}
use Rattle.ck_words.specs.Answering.{HasDone, HasCommitted, session_on}
use Rattle.cuckoo_map.proofs.Renaming.{done_in_all, answered_in_all}
use Rattle.cuckoo_map.proofs.table.Table.rename_in_all.Goals as goal

-- the set of all stripes is of the table
of_all : {w v : WordsState} (all : StripeSet) → all.s ≡ v.settings.s → v ≡ w → all.s ≡ w.settings.s
of_all all same is = same ∙ ap (λ (x : WordsState). x.settings.s) is

pub rename_among-requires-clause-first : goal.rename_among-requires-clause-first
rename_among-requires-clause-first g c =
    let q = g.K.TableKey.name c.args.from.now in
    let p1 = c.lock_all_with_room.new.pass in
    let of = of_all c.all-all.result c.all-all.ensures.s c.self.view_is in
    subst (λ (n : ℕ). HasBoth g.K.TableKey.hash n p1.stripes q) (sym of) (has_both c.args.self.now.settings.s p1.stripes c.in_default.ensures.held.all g.K.TableKey.hash q)

pub rename_among-requires-clause-second : goal.rename_among-requires-clause-second
rename_among-requires-clause-second g c =
    let r = g.K.TableKey.name c.args.to in
    let p1 = c.lock_all_with_room.new.pass in
    let of = of_all c.all-all.result c.all-all.ensures.s c.self.view_is in
    subst (λ (n : ℕ). HasBoth g.K.TableKey.hash n p1.stripes r) (sym of) (has_both c.args.self.now.settings.s p1.stripes c.in_default.ensures.held.all g.K.TableKey.hash r)

-- there is room for the new name
pub unreachable-requires : goal.unreachable-requires
unreachable-requires g c =
    let r = g.K.TableKey.name c.args.to in
    let set = c.args.self.now.settings in
    let p1 = c.lock_all_with_room.new.pass in
    let h = c.in_default.ensures.held in
    let of = of_all c.all-all.result c.all-all.ensures.s c.self.view_is in
    h.room (subst (λ (n : ℕ). IsWithoutRoom g.K.TableKey.hash n p1.stripes r) of c.in_default-rename_among.ensures.full.1 set.max (h.renewed h.taken).renewed.lawful)

-- it was answered
pub commit_session_of-requires-clause-done : goal.commit_session_of-requires-clause-done
commit_session_of-requires-clause-done g c =
    let name = g.K.TableKey.name in
    let p2 = c.rename_among.new.held.pass.now in
    let e = c.rename_among.ensures in
    let of = of_all c.all-all.result c.all-all.ensures.s c.self.view_is in
    subst (λ (x : WordsState × List Name). HasDone g.K.TableKey.hash x.0.settings (session_on x.1 p2) Closed p2)
    (λ i. (sym (e.stays.5 ∙ c.self.view_is) i, name (sym c.of.ensures i) ∷ name (sym c.of-2.ensures i) ∷ []))
    (done_in_all g.K.TableKey.hash c.args.self.now (name c.args.from.now) (name c.args.to) c.requires.different c.args.pass.now c.lock_all_with_room.new.pass c.in_default.ensures.held p2 e.stays.1 e.rest of c.in-Ok.renamed c.in-Ok.ensures.call c.in-Ok.ensures.same)

pub returns-clause-renamed : goal.returns-clause-renamed
returns-clause-renamed g c =
    let there : c.commit_session_of.new.self.pass.now ≡ c.pass-2-1.given.0 = search rules in
    let name = g.K.TableKey.name in
    let p2 = c.rename_among.new.held.pass.now in
    let z = c.commit_session_of.new.self.pass.now in
    let e = c.rename_among.ensures in
    let found = c.lock_all_with_room.ensures.found in
    let of = of_all c.all-all.result c.all-all.ensures.s c.self.view_is in
    let committed = subst (λ (x : WordsState × List Name). HasCommitted g.K.TableKey.hash x.0 (session_on x.1 p2) p2 z)
    (λ i. ((e.stays.5 ∙ c.self.view_is) i, name (c.of.ensures i) ∷ name (c.of-2.ensures i) ∷ [])) c.commit_session_of.ensures.committed in
    rw (← there) (record {
      answered = answered_in_all g.K.TableKey.hash c.args.self.now (name c.args.from.now) (name c.args.to) c.requires.different c.args.pass.now c.lock_all_with_room.new.pass c.in_default.ensures.held p2 e.stays.1 e.rest of c.in-Ok.renamed c.in-Ok.ensures.call c.in-Ok.ensures.same z committed;
      refused = tt;
      found = (found.0, committed.found ∙ (ap found_held e.stays.1 ∙ found.1), found.2);
    })
