-- A path over the contents of a lawful whole is one over the sketches of its buckets, and the other way round.
use Rattle.std.proofs.Common.{◌≡◌, ℕ, suc, ◌^◌, ◌<◌, List, [], ◌∷◌, length, Some, refl, ap, subst, inl, inr, ⊎_elim, arith}
use Rattle.ck_model.specs.declared.path_hop.PathHop.{PathHop}
use Rattle.ck_model.specs.Arithmetic.{partial_of, index_of, alternate_of, second_of}
use Rattle.ck_model.specs.Promise.{Name}
use Rattle.ck_model.specs.Slots.{slot_at}
use Rattle.ck_model.specs.Contents.{Layout, Stripes, Lawful, IsBucketOf, power_of, bucket_in}
use Rattle.ck_model.specs.Sections.{HasAll}
use Rattle.ck_model.specs.Paths.{IsPathFrom, sketch_in}
use Rattle.ck_model.specs.Sketches.{IsSketchPathFrom, IsSketchPath}
use Rattle.ck_model.proofs.Buckets.{index_below, alternate_below, second_below}
use Rattle.ck_model.proofs.Sketches.{free_of, full_of}
use Rattle.ck_path.specs.Laws.{SketchesShowPaths}
use Rattle.ck_path.proofs.Shown.{free_shown, free_there, full_shown, full_there, entry_shown, entry_there}
use Rattle.ck_path.proofs.Whole.{four_slots}

-- hops in the sketches, as many as there are buckets after the first
record IsShown {V : Type 0} (k : Layout) (hs : Stripes V) (b : ℕ) (cs : List ℕ) : Type 0 where
  hops : List PathHop
  end : ℕ
  long : length hops ≡ length cs
  path : IsSketchPathFrom (power_of hs) (sketch_in k hs) b hops end

module _ {V : Type 0} (k : Layout) (hs : Stripes V) (lawful : Lawful k hs) (all : HasAll k hs) where
  shown : (cs : List ℕ) (b : ℕ) → b < 2 ^ power_of hs → IsPathFrom k hs b cs → IsShown k hs b cs
  shown [] b below free =
      let four : length (bucket_in k hs b) ≡ 4 = four_slots k hs lawful all b below in
      record { hops = []; end = b; long = refl; path = (refl, (sketch_in k hs b, refl, free_shown k.hash (bucket_in k hs b) free.0 (omega (arith, free.1)) free.2)) }
  shown (c ∷ cs) b below path =
      let four : length (bucket_in k hs b) ≡ 4 = four_slots k hs lawful all b below in
      let i : ℕ = path.1.0 in
      let q : Name = path.1.1 in
      let next : c ≡ alternate_of (power_of hs) (partial_of (k.hash q)) b = path.1.4 in
      let rest : IsShown k hs c cs = shown cs c (rw next (alternate_below _ _ _)) path.2 in
      record {
        hops = record { bucket = b; slot = i; partial = partial_of (k.hash q) } ∷ rest.hops;
        end = rest.end;
        long = ap suc rest.long;
        path = (
          refl,
          (
            sketch_in k hs b,
            refl,
            full_shown k.hash (bucket_in k hs b) (λ j within. path.0 j (omega arith)),
            entry_shown k.hash (bucket_in k hs b) i q path.1.2 path.1.3,
          ),
          subst (λ x. IsSketchPathFrom (power_of hs) (sketch_in k hs) x rest.hops rest.end) next rest.path,
        );
      }

  there : (hops : List PathHop) (b end : ℕ) → b < 2 ^ power_of hs → IsSketchPathFrom (power_of hs) (sketch_in k hs) b hops end
      → (cs : List ℕ) × (length cs ≡ length hops) × IsPathFrom k hs b cs
  there [] b end below path =
      let four : length (bucket_in k hs b) ≡ 4 = four_slots k hs lawful all b below in
      let free : (i : ℕ) × (i < length (bucket_in k hs b)) × (slot_at (bucket_in k hs b) i ≡ _) = free_there k.hash (bucket_in k hs b) (free_of (sketch_in k hs b) path.1) in
      ([], refl, (free.0, omega (arith, free.1), free.2))
  there (h ∷ hops) b end below path =
      let four : length (bucket_in k hs b) ≡ 4 = four_slots k hs lawful all b below in
      let full = full_of (sketch_in k hs b) h.slot (Some h.partial) path.1 in
      let entry = entry_there k.hash (bucket_in k hs b) h.slot h.partial full.1 in
      let rest = there hops (alternate_of (power_of hs) h.partial b) end (alternate_below _ _ _) path.2 in (
        alternate_of (power_of hs) h.partial b ∷ rest.0,
        ap suc rest.1,
        (
          λ i within. full_there k.hash (bucket_in k hs b) full.0 i (omega arith),
          (h.slot, entry.0, entry.1, entry.2, ap (λ t. alternate_of (power_of hs) t b) entry.3),
          rest.2,
        ),
      )

  bucket_below : (q : Name) (b : ℕ) → IsBucketOf k.hash (power_of hs) q b → b < 2 ^ power_of hs
  bucket_below q b home = ⊎_elim
      (λ e. rw e (index_below (power_of hs) (k.hash q)))
      (λ e. rw e (second_below (power_of hs) (k.hash q))) home

  -- a path that begins at a bucket of the name is one for the name
  at_home : (q : Name) (b : ℕ) (hops : List PathHop) (end : ℕ) → IsBucketOf k.hash (power_of hs) q b → IsSketchPathFrom (power_of hs) (sketch_in k hs) b hops end
      → IsSketchPath (power_of hs) (sketch_in k hs) (index_of (power_of hs) (k.hash q)) (second_of (power_of hs) (k.hash q)) hops end
  at_home q b hops end home path = ⊎_elim
      (λ e. inl (subst (λ x. IsSketchPathFrom (power_of hs) (sketch_in k hs) x hops end) e path))
      (λ e. inr (subst (λ x. IsSketchPathFrom (power_of hs) (sketch_in k hs) x hops end) e path)) home

pub sketches_show_paths : (V : Type 0) → SketchesShowPaths V
sketches_show_paths V k hs q lawful all = (
  λ none b cs home few path.
      let seen : IsShown k hs b cs = shown k hs lawful all cs b (bucket_below k hs lawful all q b home) path in
      none seen.hops seen.end (omega (arith, seen.long)) (at_home k hs lawful all q b seen.hops seen.end home seen.path),
  λ none hops end few path.
      let first : IsBucketOf k.hash (power_of hs) q (index_of (power_of hs) (k.hash q)) = inl refl in
      let second : IsBucketOf k.hash (power_of hs) q (second_of (power_of hs) (k.hash q)) = inr refl in
      ⊎_elim
      (λ one. let is = there k hs lawful all hops _ end (bucket_below k hs lawful all q _ first) one in none _ is.0 first (omega (arith, is.1)) is.2)
      (λ two. let is = there k hs lawful all hops _ end (bucket_below k hs lawful all q _ second) two in none _ is.0 second (omega (arith, is.1)) is.2)
      path,
)
