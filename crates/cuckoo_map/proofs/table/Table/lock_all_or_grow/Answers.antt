use Rattle.std.proofs.Common.{rules, ◌≡◌, ◌∙◌, ℕ, ◌^◌, List, OnOk, map, sym, ap, subst}
use Rattle.ck_model.specs.Counting.{counting}
use Rattle.ck_model.specs.declared.lack.Lack.TheVariants.{Memory}
use Rattle.ck_model.specs.declared.settings.Settings.{Settings}
use Rattle.ck_model.specs.Promise.{Name}
use Rattle.ck_model.specs.Contents.{layout, Lawful}
use Rattle.ck_stripe.specs.Stripe.{StripeState}
use Rattle.ck_stripe.specs.Stripes.{contents_of}
use Rattle.ck_section.specs.Doublings.{Grows}
use Rattle.ck_section.specs.Places.{HasBoth}
use Rattle.ck_section.specs.Room.{IsLack}
use Rattle.ck_section.specs.RoomForAll.{HasRoomForAll, HaveRoomForAll}
use Rattle.ck_section.proofs.Kept.{has_both}
use Rattle.ck_section.proofs.Tables.{held_of}
use Rattle.ck_words.specs.StripeSets.{list_of}
use Rattle.ck_words.specs.Words.{WordsState}
use Rattle.ck_refusal.specs.declared.refusal.Why.{Why}
use Rattle.cuckoo_map.specs.RoomForKeys.{IsNotGrown}
use Rattle.cuckoo_map.proofs.Calls.{s_of}
use Rattle.cuckoo_map.proofs.GrowingForKeys.{HoldsAll, taken_all, settled_all, holds_names, too_little, renewed_either, caller_home, grows_for_all, not_grown}
use Rattle.cuckoo_map.proofs.table.Table.lock_all_or_grow.Goals as goal

-- the settings that code found are the table's
found_set : {w v : WordsState} {set : Settings} → v ≡ w → set ≡ v.settings → set ≡ w.settings
found_set is value = value ∙ ap (λ (x : WordsState). x.settings) is

-- the stripes that had too little room are so in another list
none_alike : {V : Type 0} {hash : Name → ℕ} {s : ℕ} (names : List Name) {ss ss2 : List (StripeState V)} → ss2 ≡ ss → ((max : ℕ) → Lawful (layout hash s max) (contents_of ss) → ¬ (HasRoomForAll (layout hash s max) (contents_of ss) names))
    → (max : ℕ) → Lawful (layout hash s max) (contents_of ss2) → ¬ (HasRoomForAll (layout hash s max) (contents_of ss2) names)
none_alike {V} {hash} {s} names same none = subst (λ (x : List (StripeState V)). (max : ℕ) → Lawful (layout hash s max) (contents_of x) → ¬ (HasRoomForAll (layout hash s max) (contents_of x) names)) (sym same) none

pub has_room_for_all-requires-clause-held : goal.has_room_for_all-requires-clause-held
has_room_for_all-requires-clause-held g c =
    let p2 = c.settle_all.new.held.pass.now in
    let t = c.in_ok-lock_all.ensures in
    let h : HoldsAll g.K.TableKey.hash c.args.self.now.settings c.args.pass.now p2 = taken_all c.args.pass.now c.lock_all.new.pass p2 t.stays t.whole t.table c.settle_all.ensures.stays.1 c.settle_all.ensures.settled in
    rw (s_of c.self.view_is c.settings-s.ensures.value) (held_of c.args.self.now.settings.s p2.stripes h.all)

pub has_room_for_all-requires-clause-owned : goal.has_room_for_all-requires-clause-owned
has_room_for_all-requires-clause-owned g c q i =
    let p2 = c.settle_all.new.held.pass.now in
    let t = c.in_ok-lock_all.ensures in
    let h : HoldsAll g.K.TableKey.hash c.args.self.now.settings c.args.pass.now p2 = taken_all c.args.pass.now c.lock_all.new.pass p2 t.stays t.whole t.table c.settle_all.ensures.stays.1 c.settle_all.ensures.settled in
    subst (λ (n : ℕ). HasBoth g.K.TableKey.hash n p2.stripes q) (sym (s_of c.self.view_is c.settings-s.ensures.value)) (has_both c.args.self.now.settings.s p2.stripes h.all g.K.TableKey.hash q)

-- there is room
pub returns-then-has_room_for_all-clause-answered : goal.returns-then-has_room_for_all-clause-answered
returns-then-has_room_for_all-clause-answered g c =
    let p3 = c.has_room_for_all.new.held.pass.now in
    let h = settled_all c.args.pass.now c.lock_all.new.pass c.settle_all.new.held.pass.now p3 c.in_ok-lock_all.ensures.stays c.in_ok-lock_all.ensures.whole c.in_ok-lock_all.ensures.table
    c.settle_all.ensures.stays.1 c.settle_all.ensures.settled c.has_room_for_all.ensures.stays.1 c.has_room_for_all.ensures.same in
    let set = c.args.self.now.settings in
    let names = map (λ k. g.K.TableKey.name k.now) c.args.keys.now in
    let there : p3 ≡ c.pass-1.given.0 = search rules in
    let of : c.all-all.result.s ≡ set.s = c.all-all.ensures.s ∙ ap (λ (x : WordsState). x.settings.s) c.self.view_is in
    let listed : list_of c.all-all.result ≡ counting 0 (2 ^ set.s) = c.all-all.ensures.all ∙ ap (λ (x : WordsState). counting 0 (2 ^ x.settings.s)) c.self.view_is in
    let room : HaveRoomForAll g.K.TableKey.hash set.s p3.stripes names =
    subst (λ (x : ℕ × List (StripeState g.row.V.Denot)). HaveRoomForAll g.K.TableKey.hash x.0 x.1 names) (λ j. (s_of c.self.view_is c.settings-s.ensures.value j, sym c.has_room_for_all.ensures.same j)) c.if-has_room_for_all.ensures.room in
    rw (← there) (holds_names h names c.all-all.result of listed, room)

-- there is none
pub grow-grown-requires-clause-table : goal.grow-grown-requires-clause-table
grow-grown-requires-clause-table g c =
    let p3 = c.has_room_for_all.new.held.pass.now in
    let h = settled_all c.args.pass.now c.lock_all.new.pass c.settle_all.new.held.pass.now p3 c.in_ok-lock_all.ensures.stays c.in_ok-lock_all.ensures.whole c.in_ok-lock_all.ensures.table
    c.settle_all.ensures.stays.1 c.settle_all.ensures.settled c.has_room_for_all.ensures.stays.1 c.has_room_for_all.ensures.same in
    rw (s_of c.self.view_is c.settings-s.ensures.value) h.all.table

pub grow-grown-requires-clause-settled : goal.grow-grown-requires-clause-settled
grow-grown-requires-clause-settled g c =
    let p3 = c.has_room_for_all.new.held.pass.now in
    let h = settled_all c.args.pass.now c.lock_all.new.pass c.settle_all.new.held.pass.now p3 c.in_ok-lock_all.ensures.stays c.in_ok-lock_all.ensures.whole c.in_ok-lock_all.ensures.table
    c.settle_all.ensures.stays.1 c.settle_all.ensures.settled c.has_room_for_all.ensures.stays.1 c.has_room_for_all.ensures.same in
    h.all.settled

pub renew-requires-clause-renewed : goal.renew-requires-clause-renewed
renew-requires-clause-renewed g c =
    let p3 = c.has_room_for_all.new.held.pass.now in
    let h = settled_all c.args.pass.now c.lock_all.new.pass c.settle_all.new.held.pass.now p3 c.in_ok-lock_all.ensures.stays c.in_ok-lock_all.ensures.whole c.in_ok-lock_all.ensures.table
    c.settle_all.ensures.stays.1 c.settle_all.ensures.settled c.has_room_for_all.ensures.stays.1 c.has_room_for_all.ensures.same in
    let p4 = c.grow-grown.new.held.pass.now in
    let grow = c.grow-grown.ensures in
    let set_is = found_set c.self.view_is c.settings-s.ensures.value in
    renewed_either (grow.stays.5 ∙ c.has_room_for_all.ensures.stays.5 ∙ c.settle_all.ensures.stays.5 ∙ c.self.view_is) h p4 grow.stays.1 c.grow-grown.result
    (subst (λ (x : Settings). OnOk c.grow-grown.result (Grows g.K.TableKey.hash x.s p3.stripes p4.stripes)) set_is grow.grown)
    (subst (λ (x : Settings). OnOk c.grow-grown.result (IsLack x.max x.min_load p3.stripes Memory)) set_is grow.may)
    grow.same

-- it grew
pub returns-in-Ok-clause-answered : goal.returns-in-Ok-clause-answered
returns-in-Ok-clause-answered g c =
    let p3 = c.has_room_for_all.new.held.pass.now in
    let h = settled_all c.args.pass.now c.lock_all.new.pass c.settle_all.new.held.pass.now p3 c.in_ok-lock_all.ensures.stays c.in_ok-lock_all.ensures.whole c.in_ok-lock_all.ensures.table
    c.settle_all.ensures.stays.1 c.settle_all.ensures.settled c.has_room_for_all.ensures.stays.1 c.has_room_for_all.ensures.same in
    let names = map (λ k. g.K.TableKey.name k.now) c.args.keys.now in
    let p4 = c.grow-grown.new.held.pass.now in
    let z = c.renew.new.self.pass.now in
    let grow = c.in-Ok.ensures in
    let r = c.renew.ensures in
    let is = grow.stays.5 ∙ c.has_room_for_all.ensures.stays.5 ∙ c.settle_all.ensures.stays.5 ∙ c.self.view_is in
    let set_is = found_set c.self.view_is c.settings-s.ensures.value in
    let lack = subst (λ (x : Settings). IsLack x.max x.min_load p3.stripes Memory) set_is grow.may in
    let little = too_little h names (s_of c.self.view_is c.settings-s.ensures.value) (none_alike names c.has_room_for_all.ensures.same c.if-has_room_for_all.ensures.no_room) Memory lack in
    let grows = subst (λ (x : Settings). Grows g.K.TableKey.hash x.s p3.stripes p4.stripes) set_is grow.grown in
    let there : z ≡ c.pass-2-1.given.0 = search rules in
    rw (← there) (caller_home is h p4 grow.stays.1 z r.released c.requires.caller, grows_for_all is h p4 grow.stays.1 z r.released names little grows grow.power r.told r.doubled)

-- or it didn't
pub returns-in-Err-clause-refused : goal.returns-in-Err-clause-refused
returns-in-Err-clause-refused g c =
    let p3 = c.has_room_for_all.new.held.pass.now in
    let h = settled_all c.args.pass.now c.lock_all.new.pass c.settle_all.new.held.pass.now p3 c.in_ok-lock_all.ensures.stays c.in_ok-lock_all.ensures.whole c.in_ok-lock_all.ensures.table
    c.settle_all.ensures.stays.1 c.settle_all.ensures.settled c.has_room_for_all.ensures.stays.1 c.has_room_for_all.ensures.same in
    let names = map (λ k. g.K.TableKey.name k.now) c.args.keys.now in
    let p4 = c.grow-grown.new.held.pass.now in
    let z = c.renew.new.self.pass.now in
    let grow = c.in-Err.ensures in
    let r = c.renew.ensures in
    let is = grow.stays.5 ∙ c.has_room_for_all.ensures.stays.5 ∙ c.settle_all.ensures.stays.5 ∙ c.self.view_is in
    let lack = subst (λ (x : Settings). IsLack x.max x.min_load p3.stripes c.in-Err.lack) (found_set c.self.view_is c.settings-s.ensures.value) grow.lack in
    let little = too_little h names (s_of c.self.view_is c.settings-s.ensures.value) (none_alike names c.has_room_for_all.ensures.same c.if-has_room_for_all.ensures.no_room) c.in-Err.lack lack in
    let there : z ≡ c.pass-2-1.given.0 = search rules in
    rw (← there) (subst (λ (why : Why). IsNotGrown g.K.TableKey.hash c.args.self.now.settings names why c.args.pass.now z) (sym c.of.ensures)
    (not_grown is h p4 grow.stays.1 z r.released names grow.same r.doubled c.in-Err.lack little))
