use Rattle.std.proofs.Common.{◌≡◌, ◌<◌, ◌≤◌, get_or, length, Some, true, sym, ◌∙◌, ap, subst, arith}
use Rattle.std.specs.Prelude.{slice_get, IsSome, IsTrue}
use Rattle.ck_path.specs.declared.node.Node.{Node}
use Rattle.ck_model.specs.Sketches.{has_free}
use Rattle.ck_path.specs.Queue.{Queue, wanted}
use Rattle.ck_path.proofs.Ends.{seen_path, shortest_path}
use Rattle.ck_path.proofs.Feeds.{wanted_none, wanted_within, front, front_says, taken_above, has_room, IsFed, fed_above, fed_deep, fed_sound, fed_sees, fed_over}
use Rattle.ck_path.proofs.search.Search.feed.Goals as goal
use Rattle.ck_path.proofs.search.Search.feed.Goals.{After-deref, then-from-lt-MAX_HOPS, else-from-lt-MAX_HOPS}

-- the search as it was, and its front
abbrev queue : After-deref → Queue
queue c = record { power = c.self.inside.power; nodes = c.self.inside.nodes.items; taken = c.self.inside.taken }

abbrev node : After-deref → Node
node c = get_or c.deref.result.now c.self.inside.taken (record { bucket = 0; parent = 0; slot = 0; partial = 0; depth = 0 })

within : (c : After-deref) → c.self.inside.taken < length c.self.inside.nodes.items
within c = wanted_within (queue c) (subst (λ x. IsSome (wanted x)) (sym c.self.view_is) c.requires)

here : (c : After-deref) → slice_get c.self.inside.nodes.items c.self.inside.taken ≡ Some (node c)
here c = front (queue c) c.deref.result.now _ c.deref.ensures.0 (within c)

pub to-requires-clause-each : goal.to-requires-clause-each
to-requires-clause-each c = rw c.deref-then-has_free.ensures.0 c.self.invariant.each

pub to-requires-clause-last : goal.to-requires-clause-last
to-requires-clause-last c =
    (c.self.inside.taken, rw c.deref-then-has_free.ensures.0 (here (goal.at.to-requires-clause-last c).After-deref))

pub returns-then-has_free-clause-over : goal.returns-then-has_free-clause-over
returns-then-has_free-clause-over c =
    let all : length c.self.inside.nodes.items ≤ c.len-self-inside.result = omega arith in
    wanted_none (record { power = c.self.inside.power; nodes = c.self.inside.nodes.items; taken = c.len-self-inside.result }) all

pub returns-then-has_free-clause-fewer : goal.returns-then-has_free-clause-fewer
returns-then-has_free-clause-fewer c =
    rw (← c.self.view_is) (omega (arith, within (goal.at.returns-then-has_free-clause-fewer c).After-deref))

pub returns-then-has_free-clause-seen : goal.returns-then-has_free-clause-seen
returns-then-has_free-clause-seen c =
    let d = (goal.at.returns-then-has_free-clause-seen c).After-deref in
    rw (← c.self.view_is) (λ p b1 b2 seen sees says.
    seen_path (queue d) c.self.invariant (λ b s. IsTrue (seen b s)) p b1 b2 sees (node d) c.args.sketch
    (front_says (queue d) (node d) (λ b. seen b c.args.sketch) true (here d) says) (sym c.has_free.ensures ∙ c.if-has_free.true)
    c.to.result c.to.ensures.end (rw c.deref-then-has_free.ensures.0 at c.to.ensures.trace))

pub returns-then-has_free-clause-path : goal.returns-then-has_free-clause-path
returns-then-has_free-clause-path c =
    let d = (goal.at.returns-then-has_free-clause-path c).After-deref in
    rw (← c.self.view_is) (λ p b1 b2 sketches over says.
    let free : has_free (sketches (node d).bucket) ≡ true =
    ap has_free (front_says (queue d) (node d) sketches c.args.sketch (here d) says) ∙ sym c.has_free.ensures ∙ c.if-has_free.true in
    shortest_path p sketches b1 b2 (queue d) c.self.invariant over (node d) (here d) free c.to.result c.to.ensures.power c.to.ensures.end
    (rw c.deref-then-has_free.ensures.0 at c.to.ensures.trace))

pub overflow_cast-self-inside : goal.overflow_cast-self-inside
overflow_cast-self-inside c =
    let d = (goal.at.overflow_cast-self-inside c).After-deref in
    let few : c.self.inside.taken < 170 = taken_above (queue d) (node d) c.self.invariant (here d) (omega arith) in
    omega arith

pub queue_others-requires-clause-room : goal.queue_others-requires-clause-room
queue_others-requires-clause-room c =
    let d = (goal.at.queue_others-requires-clause-room c).After-deref in
    has_room (queue d) (node d) c.self.invariant (here d) (omega arith)

-- the fields after the sketch of a full bucket
fed : (c : goal.After-self-2-1) → IsFed (record { power = c.self.inside.power; nodes = c.self.inside.nodes.items; taken = c.self.inside.taken })
    (get_or c.deref.result.now c.self.inside.taken (record { bucket = 0; parent = 0; slot = 0; partial = 0; depth = 0 })) c.args.sketch
    c.if-from-lt-MAX_HOPS.self-inside.power c.if-from-lt-MAX_HOPS.self-inside.nodes.items c.if-from-lt-MAX_HOPS.self-inside.taken
fed c = elim c.if-from-lt-MAX_HOPS.branch [
  | then-from-lt-MAX_HOPS w ↦
      let short : length c.args.sketch ≤ 4 = omega arith in
      fed_above _ _ c.args.sketch _ _ _ short (omega arith)
      (ap (λ x. x.power) w.self-inside-is) (ap (λ x. x.nodes.items) w.self-inside-is ∙ w.queue_others.ensures) (ap (λ x. x.taken) w.self-inside-is)
  | else-from-lt-MAX_HOPS w ↦
      let short : length c.args.sketch ≤ 4 = omega arith in
      fed_deep _ _ c.args.sketch _ _ _ short (omega arith)
      (ap (λ x. x.power) w.self-inside-is) (ap (λ x. x.nodes.items) w.self-inside-is) (ap (λ x. x.taken) w.self-inside-is)
]

pub invariant_of-self-2 : goal.invariant_of-self-2
invariant_of-self-2 c =
    let d = (goal.at.invariant_of-self-2 c).After-deref in
    fed_sound (queue d) (node d) c.args.sketch _ _ _ c.self.invariant (here d) (fed c)

pub returns-clause-fewer : goal.returns-clause-fewer
returns-clause-fewer c =
    let d = (goal.at.returns-clause-fewer c).After-deref in
    rw (← c.self.view_is, (fed c).taken_is) (omega (arith, within d, c.deref.ensures.1, ap length c.deref.ensures.0))

pub returns-clause-seen : goal.returns-clause-seen
returns-clause-seen c =
    let d = (goal.at.returns-clause-seen c).After-deref in
    rw (← c.self.view_is) (λ p b1 b2 seen sees says.
    fed_sees (queue d) (node d) c.args.sketch _ _ _ c.self.invariant (here d) (fed c) (λ b s. IsTrue (seen b s)) p b1 b2 sees
    (front_says (queue d) (node d) (λ b. seen b c.args.sketch) true (here d) says) (sym c.has_free.ensures ∙ c.if-has_free.false))

pub returns-clause-path : goal.returns-clause-path
returns-clause-path c =
    let d = (goal.at.returns-clause-path c).After-deref in
    rw (← c.self.view_is) (λ p b1 b2 sketches over says.
    fed_over (queue d) (node d) c.args.sketch _ _ _ c.self.invariant (here d) (fed c) p sketches b1 b2 over
    (front_says (queue d) (node d) sketches c.args.sketch (here d) says) (sym c.has_free.ensures ∙ c.if-has_free.false))
