use Rattle.std.proofs.Common.{◌≡◌, ℕ, ◌+◌, ◌≤◌, List, sym, ap, ◌∙◌, subst, arith}
use Rattle.ck_model.specs.Contents.{layout, Stripes}
use Rattle.ck_model.specs.Sections.{IdentitySection}
use Rattle.ck_stripe.specs.Stripe.{StripeState}
use Rattle.ck_stripe.specs.Stripes.{contents_of}
use Rattle.ck_model.specs.declared.lack.Lack.{Lack}
use Rattle.ck_stripe.specs.Tables.{power_in}
use Rattle.ck_section.specs.Room.{GivesReason}
use Rattle.ck_model.proofs.Identities.{identity_on}
use Rattle.ck_section.proofs.RoomMade.{grown_none, grown_more, grows_for_room, only_doubles, stuck_in, refused_in}
use Rattle.ck_section.proofs.Tables.{err_maps, err_anyway}
use Rattle.ck_section.proofs.room.make_room.Goals as goal

pub loop-hash-init : goal.loop-hash-init
loop-hash-init g c =
    let old : List (StripeState g.row.V.Denot) = g.H.Held.stripes c.args.held.now in
    let table = c.requires.table in
    record {
      table = table;
      rising = omega arith;
      grown = grown_none g.K.TableKey.hash c.args.s c.args.max c.args.min_load (g.K.TableKey.name c.args.key.now) old table;
      stays = g.met.H.Held.stays_same _;
    }

pub loop-hash-preserved : goal.loop-hash-preserved
loop-hash-preserved g c =
    let V : Type 0 = g.row.V.Denot in
    let hash = g.K.TableKey.hash in
    let q = g.K.TableKey.name c.args.key.now in
    let s : ℕ = c.args.s in
    let max : ℕ = c.args.max in
    let old : List (StripeState V) = g.H.Held.stripes c.args.held.now in
    let cur : List (StripeState V) = g.H.Held.stripes c.loop-hash.held in
    let mid : List (StripeState V) = g.H.Held.stripes c.room_by_hops.new.held in
    let new : List (StripeState V) = g.H.Held.stripes c.grow.new.held in
    let known = c.loop-hash.invariant in
    let stuck = c.loop-hash-test.ensures in
    let next : power_in new ≡ power_in mid + 1 = c.in_ok-grow.ensures.power in
    let level : power_in mid ≡ power_in cur = stuck.power in
    let before : power_in old ≤ power_in cur = known.rising in
    let on = g.met.H.Held.stays_on in
    record {
      table = c.in_ok-grow.ensures.table;
      rising = omega arith;
      grown = λ lawful.
          grown_more hash s max c.args.min_load q old cur mid new c.requires.table known.table before lawful (known.grown lawful) stuck.same level c.in_ok-grow.ensures.may
          (stuck_in hash s max c.args.min_load q mid stuck.table stuck.no_room stuck.no_path) c.in_ok-grow.ensures.grown next;
      stays = on _ _ _ known.stays (on _ _ _ c.room_by_hops.ensures.stays c.grow.ensures.stays);
    }

pub returns-in_err-grow-clause-no_call : goal.returns-in_err-grow-clause-no_call
returns-in_err-grow-clause-no_call g c =
    let old : List (StripeState g.row.V.Denot) = g.H.Held.stripes c.args.held.now in
    λ lawful. subst (λ (hs : Stripes g.row.V.Denot). IdentitySection (layout g.K.TableKey.hash c.args.s c.args.max) (contents_of old) hs) (sym (ap contents_of c.in_err-grow.ensures.same ∙ c.loop-hash-test.ensures.same)) (c.loop-hash.invariant.grown lawful).no_call

pub returns-in_err-grow-clause-refused : goal.returns-in_err-grow-clause-refused
returns-in_err-grow-clause-refused g c =
    let V : Type 0 = g.row.V.Denot in
    let old : List (StripeState V) = g.H.Held.stripes c.args.held.now in
    let new : List (StripeState V) = g.H.Held.stripes c.grow.new.held in
    let stuck = c.loop-hash-test.ensures in
    let said = refused_in g.K.TableKey.hash c.args.s c.args.max c.args.min_load (g.K.TableKey.name c.args.key.now) old (g.H.Held.stripes c.loop-hash.held) (g.H.Held.stripes c.room_by_hops.new.held) new c.loop-hash.invariant.grown
    stuck.same (ap contents_of c.in_err-grow.ensures.same) stuck.table stuck.no_room stuck.no_path in
    let R : Lack → Type 0 = GivesReason (layout g.K.TableKey.hash c.args.s c.args.max) c.args.min_load old new (g.K.TableKey.name c.args.key.now) in
    err_maps c.from_residual.result _ R (λ why is. subst R (sym is) (said c.in_err-grow.field-0.0 c.in_err-grow.ensures.lack)) c.from_residual.ensures.1

pub returns-in_err-grow-clause-left : goal.returns-in_err-grow-clause-left
returns-in_err-grow-clause-left g c =
    let stuck = c.loop-hash-test.ensures in
    err_anyway c.from_residual.result _
    (only_doubles g.K.TableKey.hash c.args.s c.args.max c.args.min_load (g.K.TableKey.name c.args.key.now) _ _ _ (g.H.Held.stripes c.grow.new.held) c.loop-hash.invariant.grown stuck.same stuck.power c.in_err-grow.ensures.same)

pub returns-in_err-grow-clause-doubled : goal.returns-in_err-grow-clause-doubled
returns-in_err-grow-clause-doubled g c =
    let stuck = c.loop-hash-test.ensures in
    grows_for_room g.K.TableKey.hash c.args.s c.args.max c.args.min_load (g.K.TableKey.name c.args.key.now) _ _ (g.H.Held.stripes c.grow.new.held) c.loop-hash.invariant.grown (ap (λ (l : List (StripeState g.row.V.Denot)). power_in l) c.in_err-grow.ensures.same ∙ stuck.power)

pub returns-clause-no_call : goal.returns-clause-no_call
returns-clause-no_call g c =
    let V : Type 0 = g.row.V.Denot in
    let old : List (StripeState V) = g.H.Held.stripes c.args.held.now in
    let cur : List (StripeState V) = g.H.Held.stripes c.loop-hash.held in
    let new : List (StripeState V) = g.H.Held.stripes c.room_by_hops.new.held in
    λ lawful.
    let before = (c.loop-hash.invariant.grown lawful).no_call in
    identity_on (layout g.K.TableKey.hash c.args.s c.args.max) (contents_of old) (contents_of cur) (contents_of new) before (c.room_by_hops.ensures.no_call c.args.max before.renewed.lawful)

pub returns-clause-room : goal.returns-clause-room
returns-clause-room g c = λ lawful. c.loop-hash-test.ensures.room c.args.max (c.room_by_hops.ensures.no_call c.args.max (c.loop-hash.invariant.grown lawful).no_call.renewed.lawful).renewed.lawful

pub returns-clause-doubled : goal.returns-clause-doubled
returns-clause-doubled g c = grows_for_room g.K.TableKey.hash c.args.s c.args.max c.args.min_load (g.K.TableKey.name c.args.key.now) _ _ (g.H.Held.stripes c.room_by_hops.new.held) c.loop-hash.invariant.grown c.room_by_hops.ensures.power
