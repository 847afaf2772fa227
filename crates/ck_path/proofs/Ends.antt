-- What the ends of a search show: a shortest path, or that there is none.
use Rattle.std.proofs.Common.{◌≡◌, ℕ, ◌+◌, ◌<◌, ◌≤◌, ◌⊎◌, Bool, true, false, List, [], ◌∷◌, length, Some, refl, sym, ◌∙◌, ap, subst, inl, inr, arith}
use Rattle.std.specs.Prelude.{slice_get, IsTrue}
use Rattle.std.proofs.lemmas.Bool.{cases_lt}
use Rattle.std.proofs.lemmas.Option.{slice_get_within}
use Rattle.ck_model.specs.Arithmetic.{alternate_of}
use Rattle.ck_model.specs.declared.path_hop.PathHop.{PathHop}
use Rattle.ck_path.specs.declared.node.Node.{Node}
use Rattle.ck_model.specs.Sketches.{Sketch, has_free, IsPathAlong, IsSketchPathFrom, IsSketchPath, HasNoSketchPath}
use Rattle.ck_model.proofs.Sketches.{free_of, full_of}
use Rattle.ck_path.specs.Route.{Route, IsShortestPath}
use Rattle.ck_path.specs.Queue.{Queue, IsBelow, IsSoundNode, IsSoundQueue}
use Rattle.ck_path.specs.Progress.{Covers, IsSearchSeeing, IsSearchOver}
use Rattle.ck_path.specs.Trace.{IsHop, LeadsDown, IsTrace}
use Rattle.ck_path.proofs.Lists.{same_get}
use Rattle.ck_path.proofs.Once.{visits_once}

not_free : (b : Bool) → b ≡ false → IsTrue b → ⊥
not_free true e h = cc
not_free false e h = cc

-- the parent of a node on the way
hop_up : (q : Queue) → IsSoundQueue q → (n c : Node) (h : PathHop) → IsHop q.nodes n h c → (c.depth ≡ n.depth + 1) × (c.bucket ≡ alternate_of q.power h.partial n.bucket)
hop_up q sound n c h hop =
    let w : (m : Node) × IsBelow q.power q.nodes hop.k c m = (sound.each hop.k c hop.at).below hop.low in
    let is : w.0 ≡ n = same_get q.nodes c.parent w.0 n w.1.at hop.up in (
      w.1.depth ∙ ap (λ (x : Node). x.depth + 1) is,
      cc (w.1.bucket, hop.partial, ap (λ (x : Node). x.bucket) is),
    )

leads_depth : (q : Queue) (last : Node) → IsSoundQueue q → (hops : List PathHop) (n : Node) → LeadsDown q.nodes n hops last → n.depth + length hops ≡ last.depth
leads_depth q last sound [] n leads = omega (arith, ap (λ (x : Node). x.depth) leads)
leads_depth q last sound (h ∷ hops) n leads =
    omega (arith, leads_depth q last sound hops leads.0 leads.2, (hop_up q sound n leads.0 h leads.1).0)

module _ (q : Queue) (sound : IsSoundQueue q) (Seen : ℕ → Sketch → Type 0) (p b1 b2 : ℕ) (sees : IsSearchSeeing Seen p b1 b2 q)
    (last : Node) (s : Sketch) (was_seen : Seen last.bucket s) (free : has_free s ≡ true) where
  leads_seen : (hops : List PathHop) (n : Node) → LeadsDown q.nodes n hops last → IsPathAlong Seen p n.bucket hops last.bucket
  leads_seen [] n leads = (ap (λ (x : Node). x.bucket) leads, (s, subst (λ (x : Node). Seen x.bucket s) (sym leads) was_seen, free))
  leads_seen (h ∷ hops) n leads =
      let c : Node = leads.0 in
      let hop : IsHop q.nodes n h c = leads.1 in
      let seen : (u : Sketch) × Seen n.bucket u × (has_free u ≡ false) × (slice_get u c.slot ≡ Some (Some c.partial)) =
      sees.seen hop.k c n hop.at hop.low hop.up in
      let there : c.bucket ≡ alternate_of p h.partial n.bucket =
      (hop_up q sound n c h hop).1 ∙ ap (λ x. alternate_of x h.partial n.bucket) sees.power in (
        hop.bucket,
        (seen.0, seen.1, seen.2, rw (hop.slot, hop.partial) seen.3),
        subst (λ x. IsPathAlong Seen p x hops last.bucket) there (leads_seen hops c leads.2),
      )

  -- the path to a bucket with a free slot
  pub seen_path : (route : Route) → route.end ≡ last.bucket → IsTrace q.nodes route.hops last
      → IsPathAlong Seen p b1 route.hops route.end ⊎ IsPathAlong Seen p b2 route.hops route.end
  seen_path route end trace =
      let path : IsPathAlong Seen p trace.root.bucket route.hops route.end = rw end (leads_seen route.hops trace.root trace.leads) in
      elim (sees.roots trace.k trace.root trace.at trace.top) [
        | inl one ↦ inl (subst (λ x. IsPathAlong Seen p x route.hops route.end) one path)
        | inr two ↦ inr (subst (λ x. IsPathAlong Seen p x route.hops route.end) two path)
      ]

module _ (p : ℕ) (sketches : ℕ → Sketch) (b1 b2 : ℕ) (q : Queue) (sound : IsSoundQueue q) (over : IsSearchOver p sketches b1 b2 q) where
  -- where all nodes above depth D were taken, no path ends above depth D
  dead : (D : ℕ) → D ≤ 5 → ((k : ℕ) (n : Node) → slice_get q.nodes k ≡ Some n → n.depth < D → k < q.taken)
      → (hops : List PathHop) (b d end : ℕ) → Covers q.nodes b d → d + length hops < D → IsSketchPathFrom p sketches b hops end → ⊥
  dead D five closed [] b d end c short path =
      let above : c.node.depth < D = omega (arith, c.depth) in
      let full : has_free (sketches c.node.bucket) ≡ false = over.full c.k c.node (closed c.k c.node c.at above) c.at in
      not_free (has_free (sketches b)) (ap (λ x. has_free (sketches x)) (sym c.bucket) ∙ full)
      (free_of (sketches b) path.1)
  dead D five closed (h ∷ hops) b d end c short path =
      let above : c.node.depth < D = omega (arith, c.depth) in
      let four : c.node.depth < 4 = omega (arith, c.depth) in
      let taken : c.k < q.taken = closed c.k c.node c.at above in
      let entry : slice_get (sketches c.node.bucket) h.slot ≡ Some (Some h.partial) =
      ap (λ x. slice_get (sketches x) h.slot) c.bucket ∙ (full_of (sketches b) h.slot (Some h.partial) path.1).1 in
      let next : Covers q.nodes (alternate_of p h.partial c.node.bucket) (c.node.depth + 1) =
      over.followed c.k c.node h.slot h.partial taken c.at four entry in
      let here : Covers q.nodes (alternate_of p h.partial b) (d + 1) = record {
        k = next.k;
        node = next.node;
        at = next.at;
        bucket = next.bucket ∙ ap (λ x. alternate_of p h.partial x) c.bucket;
        depth = omega (arith, next.depth, c.depth);
      } in
      dead D five closed hops (alternate_of p h.partial b) (d + 1) end here (omega arith) path.2

  not_above : (D : ℕ) → D ≤ 5 → ((k : ℕ) (n : Node) → slice_get q.nodes k ≡ Some n → n.depth < D → k < q.taken)
      → (hops : List PathHop) (end : ℕ) → length hops < D → IsSketchPath p sketches b1 b2 hops end → ⊥
  not_above D five closed hops end short path = elim path [
    | inl one ↦ dead D five closed hops b1 0 end over.first_root (omega arith) one
    | inr two ↦ dead D five closed hops b2 0 end over.second_root (omega arith) two
  ]

  -- a search whose nodes were all taken
  pub no_path : length q.nodes ≤ q.taken → HasNoSketchPath p sketches b1 b2
  no_path all hops end four path =
      not_above 5 (omega arith) (λ k n at above. omega (arith, slice_get_within q.nodes k n at)) hops end (omega arith) path

  module _ (last : Node) (here : slice_get q.nodes q.taken ≡ Some last) (free : has_free (sketches last.bucket) ≡ true) where
    -- the path to the first bucket with a free slot
    pub shortest_path : (route : Route) → route.power ≡ q.power → route.end ≡ last.bucket → IsTrace q.nodes route.hops last
        → IsShortestPath p sketches b1 b2 route
    shortest_path route power end trace =
        let me : IsSoundNode q.power q.nodes q.taken last = sound.each q.taken last here in
        let long : trace.root.depth + length route.hops ≡ last.depth = leads_depth q last sound route.hops trace.root trace.leads in
        let path : IsSketchPath p sketches b1 b2 route.hops route.end =
        seen_path q sound (λ b s. sketches b ≡ s) p b1 b2 over.sees last (sketches last.bucket) refl free route end trace in
        let least : (hops : List PathHop) (end' : ℕ) → IsSketchPath p sketches b1 b2 hops end' → length route.hops ≤ length hops =
        λ hops end' other. elim (cases_lt (length hops) last.depth) [
          | inl less ↦ absurd (not_above last.depth (omega (arith, me.depth)) closed hops end' less other)
          | inr ge ↦ omega (arith, trace.top, long)
        ] in
        record {
          power = power ∙ over.sees.power;
          path = path;
          at_most_four = omega (arith, me.depth, trace.top, long);
          once = elim path [
            | inl one ↦ visits_once p sketches route.hops b1 route.end one (λ hops end' other. least hops end' (inl other))
            | inr two ↦ visits_once p sketches route.hops b2 route.end two (λ hops end' other. least hops end' (inr other))
          ];
          shortest = least;
        }
      where
        closed : (k : ℕ) (n : Node) → slice_get q.nodes k ≡ Some n → n.depth < last.depth → k < q.taken
        closed k n at less = elim (cases_lt k q.taken) [
          | inl lt ↦ lt
          | inr ge ↦ absurd (omega (arith, sound.sorted q.taken k last n ge here at))
        ]
