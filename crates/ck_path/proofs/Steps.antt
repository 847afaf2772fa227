-- What holds of a search still holds once a full bucket was taken.
use Rattle.std.proofs.Common.{◌≡◌, ℕ, ◌+◌, ◌*◌, ◌<◌, ◌≤◌, ◌⊎◌, false, List, [], ◌++◌, length, Some, refl, sym, ◌∙◌, ap, subst, inl, inr, arith, length-append, add-one}
use Rattle.std.specs.Prelude.{slice_get}
use Rattle.std.proofs.lemmas.Bool.{cases_lt}
use Rattle.std.proofs.lemmas.Option.{none-some, slice_get_within}
use Rattle.ck_model.specs.Arithmetic.{alternate_of}
use Rattle.ck_path.specs.declared.node.Node.{Node}
use Rattle.ck_model.specs.Sketches.{Sketch, has_free}
use Rattle.ck_path.specs.Queue.{Queue, children, room_of, IsBelow, IsSoundNode, IsSoundQueue}
use Rattle.ck_path.specs.Progress.{Covers, IsSearchSeeing, IsSearchOver}
use Rattle.ck_model.proofs.Buckets.{alternate_below}
use Rattle.ck_path.proofs.Lists.{get_cases, get_left, get_right, same_get}
use Rattle.ck_path.proofs.Below.{IsChild, HasOther, children_short, children_sound, children_complete}

lt_cases : (k m : ℕ) → k < m + 1 → (k < m) ⊎ (k ≡ m)
lt_cases k m h = elim (cases_lt k m) [ inl lt ↦ inl lt | inr ge ↦ inr (omega arith) ]

room_more : (d e : ℕ) → e ≡ d + 1 → room_of e ≡ 2 + 4 * room_of d
room_more d e is = rw (is, add-one) refl

-- the nodes that a full bucket adds: none at depth 4
pub record Adds (p k : ℕ) (n : Node) (s : Sketch) (added : List Node) : Type 0 where
  pub short : length added ≤ 4
  pub slots : length s ≤ 4
  pub above : (i : ℕ) (c : Node) → slice_get added i ≡ Some c → n.depth < 4
  pub sound : (i : ℕ) (c : Node) → slice_get added i ≡ Some c → IsChild p k n 0 s c
  pub complete : n.depth < 4 → (slot t : ℕ) → slice_get s slot ≡ Some (Some t)
      → (alternate_of p t n.bucket ≡ n.bucket) ⊎ HasOther p n t added

pub adds_children : (p k : ℕ) (n : Node) (s : Sketch) → length s ≤ 4 → n.depth < 4 → Adds p k n s (children p k n 0 s)
adds_children p k n s short above = record {
  short = omega (arith, children_short p k n 0 s);
  slots = short;
  above = λ i c at. above;
  sound = children_sound p k n 0 s;
  complete = λ _ slot t e. children_complete p k n 0 s slot t e;
}

pub adds_none : (p k : ℕ) (n : Node) (s : Sketch) → length s ≤ 4 → 4 ≤ n.depth → Adds p k n s []
adds_none p k n s short deep = record {
  short = omega arith;
  slots = short;
  above = λ i c at. absurd (none-some c at);
  sound = λ i c at. absurd (none-some c at);
  complete = λ above slot t e. absurd (omega arith);
}

pub covers_more : (nodes added : List Node) (b d : ℕ) → Covers nodes b d → Covers (nodes ++ added) b d
covers_more nodes added b d c = record { k = c.k; node = c.node; at = get_left nodes added c.k c.node c.at; bucket = c.bucket; depth = c.depth }

-- a search after its next bucket was taken
abbrev pub after_taken : Queue → List Node → Queue
after_taken q added = record { power = q.power; nodes = q.nodes ++ added; taken = q.taken + 1 }

module _ (q : Queue) (n : Node) (s : Sketch) (added : List Node) (sound : IsSoundQueue q) (here : slice_get q.nodes q.taken ≡ Some n)
    (adds : Adds q.power q.taken n s added) where
  deeper : (k : ℕ) (c : Node) → slice_get (q.nodes ++ added) k ≡ Some c → c.depth ≤ n.depth + 1
  deeper k c at = elim (get_cases q.nodes added k c at) [
    | inl old ↦ sound.near k n c here old
    | inr new ↦ let is : IsChild q.power q.taken n 0 s c = adds.sound new.i c new.at in omega arith
  ]

  each_after : (k : ℕ) (c : Node) → slice_get (q.nodes ++ added) k ≡ Some c → IsSoundNode q.power (q.nodes ++ added) k c
  each_after k c at = elim (get_cases q.nodes added k c at) [
    | inl old ↦
        let was : IsSoundNode q.power q.nodes k c = sound.each k c old in
        record {
          depth = was.depth;
          bucket = was.bucket;
          slot = was.slot;
          room = was.room;
          below = λ h. let w : (m : Node) × IsBelow q.power q.nodes k c m = was.below h in
              (w.0, record { at = get_left q.nodes added c.parent w.0 w.1.at; earlier = w.1.earlier; depth = w.1.depth; bucket = w.1.bucket });
        }
    | inr new ↦
        let is : IsChild q.power q.taken n 0 s c = adds.sound new.i c new.at in
        let above : n.depth < 4 = adds.above new.i c new.at in
        let within : q.taken < length q.nodes = slice_get_within q.nodes q.taken n here in
        let inside : new.i < length added = slice_get_within added new.i c new.at in
        let me : IsSoundNode q.power q.nodes q.taken n = sound.each q.taken n here in
        let short : length added ≤ 4 = adds.short in
        let size : length q.nodes ≤ 2 + 4 * q.taken = sound.size in
        record {
          depth = omega arith;
          bucket = rw is.bucket (alternate_below q.power c.partial n.bucket);
          slot = omega (arith, is.slot, slice_get_within s is.i (Some c.partial) is.entry, adds.slots);
          room = rw (room_more n.depth c.depth is.depth) (omega (arith, me.room, new.place));
          below = λ h. (
            n,
            record {
              at = rw is.parent (get_left q.nodes added q.taken n here);
              earlier = omega arith;
              depth = is.depth;
              bucket = is.bucket;
            },
          );
        }
  ]

  sorted_after : (j k : ℕ) (m c : Node) → j ≤ k → slice_get (q.nodes ++ added) j ≡ Some m → slice_get (q.nodes ++ added) k ≡ Some c → m.depth ≤ c.depth
  sorted_after j k m c le at_j at_k = elim (get_cases q.nodes added k c at_k) [
    | inl old ↦ elim (get_cases q.nodes added j m at_j) [
      | inl first ↦ sound.sorted j k m c le first old
      | inr new ↦ let within : k < length q.nodes = slice_get_within q.nodes k c old in absurd (omega (arith, new.place))
    ]
    | inr new ↦ let is : IsChild q.power q.taken n 0 s c = adds.sound new.i c new.at in omega (arith, deeper j m at_j)
  ]

  pub sound_after : IsSoundQueue (after_taken q added)
  sound_after = record {
    power = sound.power;
    taken = omega (arith, slice_get_within q.nodes q.taken n here, length-append q.nodes added);
    size = omega (arith, sound.size, adds.short, length-append q.nodes added);
    each = each_after;
    sorted = sorted_after;
    near = λ k m c at_next at. omega (
      arith,
      deeper k c at,
      sorted_after q.taken (q.taken + 1) n m (omega arith) (get_left q.nodes added q.taken n here) at_next,
    );
  }

  module _ (Seen : ℕ → Sketch → Type 0) (p b1 b2 : ℕ) (sees : IsSearchSeeing Seen p b1 b2 q) (was_seen : Seen n.bucket s) (full : has_free s ≡ false) where
    roots_after : (k : ℕ) (c : Node) → slice_get (q.nodes ++ added) k ≡ Some c → c.depth ≡ 0 → (c.bucket ≡ b1) ⊎ (c.bucket ≡ b2)
    roots_after k c at top = elim (get_cases q.nodes added k c at) [
      | inl old ↦ sees.roots k c old top
      | inr new ↦ let is : IsChild q.power q.taken n 0 s c = adds.sound new.i c new.at in absurd (omega arith)
    ]

    seen_after : (k : ℕ) (c m : Node) → slice_get (q.nodes ++ added) k ≡ Some c → 0 < c.depth → slice_get (q.nodes ++ added) c.parent ≡ Some m
        → (u : Sketch) × Seen m.bucket u × (has_free u ≡ false) × (slice_get u c.slot ≡ Some (Some c.partial))
    seen_after k c m at low up = elim (get_cases q.nodes added k c at) [
      | inl old ↦
          let w : (m' : Node) × IsBelow q.power q.nodes k c m' = (sound.each k c old).below low in
          let is : w.0 ≡ m = same_get (q.nodes ++ added) c.parent w.0 m (get_left q.nodes added c.parent w.0 w.1.at) up in
          sees.seen k c m old low (w.1.at ∙ ap (λ x. Some x) is)
      | inr new ↦
          let child : IsChild q.power q.taken n 0 s c = adds.sound new.i c new.at in
          let up' : slice_get (q.nodes ++ added) q.taken ≡ Some m = ap (λ x. slice_get (q.nodes ++ added) x) (sym child.parent) ∙ up in
          let is : n ≡ m = same_get (q.nodes ++ added) q.taken n m (get_left q.nodes added q.taken n here) up' in
          let place : c.slot ≡ child.i = omega (arith, child.slot) in
          (s, subst (λ (x : Node). Seen x.bucket s) is was_seen, full, rw place child.entry)
    ]

    pub sees_after : IsSearchSeeing Seen p b1 b2 (after_taken q added)
    sees_after = record { power = sees.power; roots = roots_after; seen = seen_after }

  module _ (p : ℕ) (sketches : ℕ → Sketch) (b1 b2 : ℕ) (over : IsSearchOver p sketches b1 b2 q) (says : sketches n.bucket ≡ s) (full : has_free s ≡ false) where
    full_here : has_free (sketches n.bucket) ≡ false
    full_here = ap has_free says ∙ full

    -- a taken node is an old one or the one that was just taken
    taken_cases : (k : ℕ) (c : Node) → k < q.taken + 1 → slice_get (q.nodes ++ added) k ≡ Some c
        → ((k < q.taken) × (slice_get q.nodes k ≡ Some c)) ⊎ (n ≡ c)
    taken_cases k c below at = elim (get_cases q.nodes added k c at) [
      | inl old ↦ elim (lt_cases k q.taken below) [
        | inl lt ↦ inl (lt, old)
        | inr eq ↦ inr (same_get q.nodes q.taken n c here (ap (λ x. slice_get q.nodes x) (sym eq) ∙ old))
      ]
      | inr new ↦ let within : q.taken < length q.nodes = slice_get_within q.nodes q.taken n here in absurd (omega (arith, new.place))
    ]

    full_after : (k : ℕ) (c : Node) → k < q.taken + 1 → slice_get (q.nodes ++ added) k ≡ Some c → has_free (sketches c.bucket) ≡ false
    full_after k c below at = elim (taken_cases k c below at) [
      | inl old ↦ over.full k c old.0 old.1
      | inr is ↦ subst (λ (x : Node). has_free (sketches x.bucket) ≡ false) is full_here
    ]

    followed_here : (slot t : ℕ) → n.depth < 4 → slice_get (sketches n.bucket) slot ≡ Some (Some t)
        → Covers (q.nodes ++ added) (alternate_of p t n.bucket) (n.depth + 1)
    followed_here slot t above at =
        let entry : slice_get s slot ≡ Some (Some t) = ap (λ x. slice_get x slot) (sym says) ∙ at in
        let power : q.power ≡ p = over.sees.power in
        elim (adds.complete above slot t entry) [
          | inl same ↦ record {
            k = q.taken;
            node = n;
            at = get_left q.nodes added q.taken n here;
            bucket = sym same ∙ ap (λ x. alternate_of x t n.bucket) power;
            depth = omega arith;
          }
          | inr has ↦
              let r : (k : ℕ) × (slice_get (q.nodes ++ added) k ≡ Some has.node) = get_right q.nodes added has.k has.node has.at in
              record { k = r.0; node = has.node; at = r.1; bucket = has.bucket ∙ ap (λ x. alternate_of x t n.bucket) power; depth = omega (arith, has.depth) }
        ]

    followed_after : (k : ℕ) (c : Node) (slot t : ℕ) → k < q.taken + 1 → slice_get (q.nodes ++ added) k ≡ Some c → c.depth < 4
        → slice_get (sketches c.bucket) slot ≡ Some (Some t) → Covers (q.nodes ++ added) (alternate_of p t c.bucket) (c.depth + 1)
    followed_after k c slot t below at above entry = elim (taken_cases k c below at) [
      | inl old ↦ covers_more q.nodes added _ _ (over.followed k c slot t old.0 old.1 above entry)
      | inr is ↦ subst (λ (x : Node). x.depth < 4 → slice_get (sketches x.bucket) slot ≡ Some (Some t)
          → Covers (q.nodes ++ added) (alternate_of p t x.bucket) (x.depth + 1)) is (followed_here slot t) above entry
    ]

    pub over_after : IsSearchOver p sketches b1 b2 (after_taken q added)
    over_after = record {
      sees = sees_after (λ b u. sketches b ≡ u) p b1 b2 over.sees says full;
      first_root = covers_more q.nodes added b1 0 over.first_root;
      second_root = covers_more q.nodes added b2 0 over.second_root;
      full = full_after;
      followed = followed_after;
    }
