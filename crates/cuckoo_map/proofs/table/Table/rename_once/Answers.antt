use Rattle.std.proofs.Common.{rules, ◌≡◌, ◌≢◌, ◌∙◌, List, [], ◌∷◌, None, inl, inr, refl, sym, ap, subst}
use Rattle.std.specs.FinMap.{get}
use Rattle.ck_model.specs.declared.history.Reply.TheVariants.{Closed}
use Rattle.ck_model.specs.Promise.{Name}
use Rattle.ck_model.specs.Contents.{layout_of, bindings}
use Rattle.ck_model.specs.Sections.{Owns}
use Rattle.ck_model.specs.Paths.{HasNoRoom}
use Rattle.ck_stripe.specs.Stripes.{contents_of}
use Rattle.ck_core.specs.State.{found_held}
use Rattle.ck_words.specs.Words.{WordsState}
use Rattle.ck_words.specs.Passes.{PassState}
use Rattle.ck_words.specs.Answering.{HasDone, HasCommitted, session_on}
use Rattle.cuckoo_map.specs.Insertions.{FindsFull}
use Rattle.cuckoo_map.specs.Renames.{Renames}
use Rattle.cuckoo_map.proofs.HeldKeys.{holds_keys, keys_done, has_queried}
use Rattle.cuckoo_map.proofs.Refusing.{told_since}
use Rattle.cuckoo_map.proofs.table.Table.rename_once.Goals as goal

pub rename_held-requires : goal.rename_held-requires
rename_held-requires g c = record { held = holds_keys c.args.pass.now c.lock_different.new.pass c.requires.caller c.lock_different.ensures.own c.in-Ok.ensures.different c.in-Ok.ensures.held }

-- it was answered
pub commit_session_of-requires-clause-done : goal.commit_session_of-requires-clause-done
commit_session_of-requires-clause-done g c =
    let name = g.K.TableKey.name in
    let p = c.rename_held.new.pass in
    subst (λ (x : WordsState × List Name). HasDone g.K.TableKey.hash x.0.settings (session_on x.1 p) Closed p)
    (λ i. (sym c.self.view_is i, name (sym c.of.ensures i) ∷ name (sym c.of-2.ensures i) ∷ [])) (keys_done p c.rename_held.ensures.held)

pub returns-in-Ok-rename_held-clause-renamed : goal.returns-in-Ok-rename_held-clause-renamed
returns-in-Ok-rename_held-clause-renamed g c =
    let there : c.commit_session_of.new.self.pass.now ≡ c.pass-1.given.0 = search rules in
    let name = g.K.TableKey.name in
    let p2 = c.lock_different.new.pass in
    let p3 = c.rename_held.new.pass in
    let z = c.commit_session_of.new.self.pass.now in
    let e = c.in-Ok-rename_held.ensures in
    let committed = subst (λ (x : WordsState × List Name). HasCommitted g.K.TableKey.hash x.0 (session_on x.1 p3) p3 z)
    (λ i. (c.self.view_is i, name (c.of.ensures i) ∷ name (c.of-2.ensures i) ∷ [])) c.commit_session_of.ensures.committed in
    let did = has_queried {P = Renames} c.args.pass.now p2 p3 z e.held c.in-Ok.ensures.held e.stays c.lock_different.ensures.found committed c.in-Ok-rename_held.renamed e.renamed in
    rw (← there) (record { tried = did.answered; refused = tt; found = did.found })

-- the new name had no slot
pub refuse_full-requires-clause-full : goal.refuse_full-requires-clause-full
refuse_full-requires-clause-full g c lawful =
    let hash = g.K.TableKey.hash in
    let name = g.K.TableKey.name in
    let w = c.args.self.now in
    let hs = contents_of c.rename_held.new.pass.stripes in
    let full = c.in-Err-rename_held.ensures.full in
    let owned : Owns (layout_of hash w.settings) hs (name c.args.to) = c.rename_held.ensures.held.owned (name c.args.to) (inr (inl refl)) w.settings.max in
    let none : HasNoRoom (layout_of hash w.settings) hs (name c.args.to) = subst (λ (x : PassState g.row.V.Denot). HasNoRoom (layout_of hash w.settings) (contents_of x.stripes) (name c.args.to)) (sym full.1) full.2 in
    subst (λ (x : WordsState × Name). Owns (layout_of hash x.0.settings) hs x.1 × HasNoRoom (layout_of hash x.0.settings) hs x.1) (λ i. (sym c.self.view_is i, name (sym full.0 i))) (owned, none)

pub returns-clause-renamed : goal.returns-clause-renamed
returns-clause-renamed g c =
    let z = c.refuse_full.new.self.pass.now in
    let there : z ≡ c.pass-in-Err-rename_held-1.given.0 = search rules in
    let name = g.K.TableKey.name in
    let p = c.args.pass.now in
    let p2 = c.lock_different.new.pass in
    let p3 = c.rename_held.new.pass in
    let full = c.in-Err-rename_held.ensures.full in
    let r = c.refuse_full.ensures.refused in
    let found = c.lock_different.ensures.found in
    let hs = contents_of p3.stripes in
    let told = subst (λ (q : Name). FindsFull q hs p3 z) (ap name full.0) r.stays in
    let bound : get (bindings hs) (name c.args.from.now) ≢ None = subst (λ (x : PassState g.row.V.Denot). get (bindings (contents_of x.stripes)) (name c.args.from.now) ≢ None) (sym full.1) c.in-Err-rename_held.ensures.bound in
    let view = ap (λ (x : PassState g.row.V.Denot). x.view) full.1 in
    rw (← there) (record {
      tried = (full.0, (hs, told_since (name c.args.to) hs p p2 p3 z c.in-Ok.ensures.held.stays view told, bound));
      refused = tt;
      found = (found.0, r.found ∙ (ap (λ (x : PassState g.row.V.Denot). found_held x.view) full.1 ∙ found.1), found.2);
    })
