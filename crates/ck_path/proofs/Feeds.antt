-- One more sketch.
use Rattle.std.proofs.Common.{◌≡◌, ℕ, zero, suc, ◌+◌, ◌<◌, ◌≤◌, false, List, [], ◌++◌, length, get_or, Option, Some, None, sym, ◌∙◌, ap, inl, inr, arith, append-nil}
use Rattle.std.specs.Prelude.{slice_get, option_map, IsSome}
use Rattle.std.proofs.lemmas.Bool.{cases_lt}
use Rattle.std.proofs.lemmas.Option.{none-some, same_Some, slice_get_past, slice_get-get_or}
use Rattle.ck_path.specs.declared.node.Node.{Node}
use Rattle.ck_model.specs.Sketches.{Sketch, has_free}
use Rattle.ck_path.specs.Queue.{Queue, wanted, children, room_of, IsSoundNode, IsSoundQueue}
use Rattle.ck_path.specs.Progress.{IsSearchSeeing, IsSearchOver}
use Rattle.ck_path.proofs.Steps.{Adds, adds_children, adds_none, sound_after, sees_after, over_after}

pub wanted_none : (q : Queue) → length q.nodes ≤ q.taken → wanted q ≡ None
wanted_none q all = ap (option_map (λ (n : Node). n.bucket)) (slice_get_past q.nodes q.taken all)

no_some : {X : Type 0} (o : Option X) → o ≡ None → IsSome o → ⊥
no_some o e h = elim o as (λ v. v ≡ None → IsSome v → ⊥) [ Some x ↦ λ f _. absurd (none-some x (sym f)) | None ↦ λ _ g. (cc) ] e h

pub wanted_within : (q : Queue) → IsSome (wanted q) → q.taken < length q.nodes
wanted_within q some = elim (cases_lt q.taken (length q.nodes)) [
  | inl lt ↦ lt
  | inr ge ↦ absurd (no_some (wanted q) (wanted_none q ge) some)
]

-- the node at the front, as it is read
pub front : (q : Queue) (xs : List Node) (blank : Node) → xs ≡ q.nodes → q.taken < length q.nodes
    → slice_get q.nodes q.taken ≡ Some (get_or xs q.taken blank)
front q xs blank same within = rw same (slice_get-get_or q.nodes q.taken blank within)

-- what is said of the wanted bucket is said of the front's
pub front_says : {X : Type 0} (q : Queue) (n : Node) (f : ℕ → X) (x : X) → slice_get q.nodes q.taken ≡ Some n
    → option_map f (wanted q) ≡ Some x → f n.bucket ≡ x
front_says q n f x here says =
    same_Some (f n.bucket) x (sym (ap (λ o. option_map f (option_map (λ (m : Node). m.bucket) o)) here) ∙ says)

room_above : (d : ℕ) → d < 4 → room_of d ≤ 170
room_above zero h = omega arith
room_above (suc zero) h = omega arith
room_above (suc (suc zero)) h = omega arith
room_above (suc (suc (suc zero))) h = omega arith
room_above (suc (suc (suc (suc d)))) h = absurd (omega arith)

-- only the first 170 nodes have others below them
pub taken_above : (q : Queue) (n : Node) → IsSoundQueue q → slice_get q.nodes q.taken ≡ Some n → n.depth < 4 → q.taken < 170
taken_above q n sound here above =
    let me : IsSoundNode q.power q.nodes q.taken n = sound.each q.taken n here in
    omega (arith, me.room, room_above n.depth above)

pub has_room : (q : Queue) (n : Node) → IsSoundQueue q → slice_get q.nodes q.taken ≡ Some n → n.depth < 4 → length q.nodes + 4 ≤ 682
has_room q n sound here above = omega (arith, sound.size, taken_above q n sound here above)

-- the fields of a search after its front was taken
pub record IsFed (q : Queue) (n : Node) (s : Sketch) (power : ℕ) (nodes : List Node) (taken : ℕ) : Type 0 where
  pub added : List Node
  pub adds : Adds q.power q.taken n s added
  pub power_is : power ≡ q.power
  pub nodes_is : nodes ≡ q.nodes ++ added
  pub taken_is : taken ≡ q.taken

pub fed_above : (q : Queue) (n : Node) (s : Sketch) (power : ℕ) (nodes : List Node) (taken : ℕ) → length s ≤ 4 → n.depth < 4
    → power ≡ q.power → nodes ≡ q.nodes ++ children q.power q.taken n 0 s → taken ≡ q.taken → IsFed q n s power nodes taken
fed_above q n s power nodes taken short above e f g = record {
  added = children q.power q.taken n 0 s;
  adds = adds_children q.power q.taken n s short above;
  power_is = e;
  nodes_is = f;
  taken_is = g;
}

pub fed_deep : (q : Queue) (n : Node) (s : Sketch) (power : ℕ) (nodes : List Node) (taken : ℕ) → length s ≤ 4 → 4 ≤ n.depth
    → power ≡ q.power → nodes ≡ q.nodes → taken ≡ q.taken → IsFed q n s power nodes taken
fed_deep q n s power nodes taken short deep e f g = record {
  added = [];
  adds = adds_none q.power q.taken n s short deep;
  power_is = e;
  nodes_is = f ∙ sym (append-nil q.nodes);
  taken_is = g;
}

pub fed_sound : (q : Queue) (n : Node) (s : Sketch) (power : ℕ) (nodes : List Node) (taken : ℕ) → IsSoundQueue q → slice_get q.nodes q.taken ≡ Some n
    → IsFed q n s power nodes taken → IsSoundQueue (record { power = power; nodes = nodes; taken = taken + 1 })
fed_sound q n s power nodes taken sound here fed =
    rw (fed.power_is, fed.nodes_is, fed.taken_is) (sound_after q n s fed.added sound here fed.adds)

pub fed_sees : (q : Queue) (n : Node) (s : Sketch) (power : ℕ) (nodes : List Node) (taken : ℕ) → IsSoundQueue q → slice_get q.nodes q.taken ≡ Some n
    → IsFed q n s power nodes taken → (Seen : ℕ → Sketch → Type 0) (p b1 b2 : ℕ) → IsSearchSeeing Seen p b1 b2 q
    → Seen n.bucket s → has_free s ≡ false → IsSearchSeeing Seen p b1 b2 (record { power = power; nodes = nodes; taken = taken + 1 })
fed_sees q n s power nodes taken sound here fed Seen p b1 b2 sees was_seen full =
    rw (fed.power_is, fed.nodes_is, fed.taken_is) (sees_after q n s fed.added sound here fed.adds Seen p b1 b2 sees was_seen full)

pub fed_over : (q : Queue) (n : Node) (s : Sketch) (power : ℕ) (nodes : List Node) (taken : ℕ) → IsSoundQueue q → slice_get q.nodes q.taken ≡ Some n
    → IsFed q n s power nodes taken → (p : ℕ) (sketches : ℕ → Sketch) (b1 b2 : ℕ) → IsSearchOver p sketches b1 b2 q
    → sketches n.bucket ≡ s → has_free s ≡ false → IsSearchOver p sketches b1 b2 (record { power = power; nodes = nodes; taken = taken + 1 })
fed_over q n s power nodes taken sound here fed p sketches b1 b2 over says full =
    rw (fed.power_is, fed.nodes_is, fed.taken_is) (over_after q n s fed.added sound here fed.adds p sketches b1 b2 over says full)
