use Rattle.std.proofs.Common.{◌≡◌, ℕ, List, IfSome, IfNone, refl, ◌∙◌, ap, subst}
use Rattle.ck_key.specs.declared.key_hash.KeyHash.{KeyHash}
use Rattle.ck_model.specs.Arithmetic.{partial_of, index_of, alternate_of, second_of}
use Rattle.ck_model.specs.Sketches.{HasNoSketchPath}
use Rattle.ck_path.specs.Route.{IsShortestPath}
use Rattle.ck_stripe.specs.Stripe.{StripeState}
use Rattle.ck_stripe.specs.Tables.{power_in}
use Rattle.ck_section.specs.Room.{sketch_of, IsWithoutPath}
use Rattle.ck_section.proofs.Tables.{second_by, none_maps, no_path_of}
use Rattle.ck_section.proofs.whole_path.find_path.Goals as goal

-- what the search was given
given : {V : Type 0} (s : ℕ) (stripes cur : List (StripeState V)) (h : ℕ) (hash : KeyHash) (p first second : ℕ) → cur ≡ stripes → hash.hash ≡ h → hash.partial ≡ partial_of h → p ≡ power_in stripes → first ≡ index_of p hash.hash → second ≡ alternate_of p hash.partial first
    → (P : ℕ → List (StripeState V) → ℕ → ℕ → Type 0) → P p cur first second → P (power_in stripes) stripes (index_of (power_in stripes) h) (second_of (power_in stripes) h)
given {V} s stripes cur h hash p first second same value partial power one two P is =
    let first_is : first ≡ index_of (power_in stripes) h = one ∙ (λ z. index_of (power z) (value z)) in
    let second_is : second ≡ second_of (power_in stripes) h = two ∙ ap (λ n. alternate_of n hash.partial first) power ∙ second_by (power_in stripes) h hash.partial first partial first_is in
    subst (λ (x : (ℕ × List (StripeState V)) × (ℕ × ℕ)). P x.0.0 x.0.1 x.1.0 x.1.1) (λ z. ((power z, same z), (first_is z, second_is z))) is

pub returns-clause-path : goal.returns-clause-path
returns-clause-path g c =
    given c.args.s (g.H.Held.stripes c.args.held.now) (g.H.Held.stripes c.power-power.new.held) (g.K.TableKey.hash (g.K.TableKey.name c.args._key.now)) c.args.hash c.power-power.result c.index-first.result c.alternate-second.result
    c.power-power.ensures.same c.requires.hash.value c.requires.hash.partial c.power-power.ensures.value c.index-first.ensures.value c.alternate-second.ensures.value
    (λ (p : ℕ) (l : List (StripeState g.row.V.Denot)) (b1 b2 : ℕ). IfSome c.search_from.result (IsShortestPath p (sketch_of g.K.TableKey.hash c.args.s l) b1 b2)) c.search_from.ensures.path

pub returns-clause-none : goal.returns-clause-none
returns-clause-none g c =
    let stripes : List (StripeState g.row.V.Denot) = g.H.Held.stripes c.args.held.now in
    let q = g.K.TableKey.name c.args._key.now in
    none_maps c.search_from.result _ (IsWithoutPath g.K.TableKey.hash c.args.s stripes q)
    (no_path_of c.args.s stripes c.requires.held.table g.K.TableKey.hash q (power_in stripes) refl)
    (given c.args.s stripes (g.H.Held.stripes c.power-power.new.held) (g.K.TableKey.hash q) c.args.hash c.power-power.result c.index-first.result c.alternate-second.result
    c.power-power.ensures.same c.requires.hash.value c.requires.hash.partial c.power-power.ensures.value c.index-first.ensures.value c.alternate-second.ensures.value
    (λ (p : ℕ) (l : List (StripeState g.row.V.Denot)) (b1 b2 : ℕ). IfNone c.search_from.result (HasNoSketchPath p (sketch_of g.K.TableKey.hash c.args.s l) b1 b2)) c.search_from.ensures.none)
