use Rattle.std.proofs.Common.{◌∙◌, ◌+◌, List, take, reverse, sym, ap}
use Rattle.ck_model.specs.declared.path_hop.PathHop.{PathHop}
use Rattle.ck_path.specs.Route.{first_bucket}
use Rattle.std.proofs.lemmas.Result.{err_from_is_err_and}
use Rattle.cuckoo_map.proofs.Displacing.{back_same, back_on, busy_on}
use Rattle.cuckoo_map.proofs.Following.{hop_linked, next_target}
use Rattle.cuckoo_map.proofs.table.Table.follow.Goals as goal

-- what a read past the end would give
abbrev none : PathHop
none = record { bucket = 0; slot = 0; partial = 0 }

pub loop-step-init : goal.loop-step-init
loop-step-init g c = record { back = back_same c.args.self.now c.args.pass.now c.requires.own c.requires.idle; target = c.end-target.ensures }

pub make_one_hop-requires-clause-below : goal.make_one_hop-requires-clause-below
make_one_hop-requires-clause-below g c =
    let path = c.args.path.now in
    let linked = hop_linked path.power path.hops c.hops_from_end-step-items.result.now path.end c.hops_from_end-step-items.ensures c.loop-step.step-index c.loop-step-test.true none c.power-power.ensures.linked.linked in
    rw c.power-power.ensures.value linked.0

pub make_one_hop-requires-clause-target : goal.make_one_hop-requires-clause-target
make_one_hop-requires-clause-target g c =
    let path = c.args.path.now in
    let items = c.hops_from_end-step-items.result.now in
    let linked = hop_linked path.power path.hops items path.end c.hops_from_end-step-items.ensures c.loop-step.step-index c.loop-step-test.true none c.power-power.ensures.linked.linked in
    rw c.power-power.ensures.value (c.loop-step.invariant.target ∙ (ap (λ (l : List PathHop). first_bucket (reverse (take c.loop-step.step-index l)) path.end) (sym c.hops_from_end-step-items.ensures) ∙ sym linked.1))

pub returns-in_err-make_one_hop : goal.returns-in_err-make_one_hop
returns-in_err-make_one_hop g c = record {
  back = back_on c.args.self.now c.args.pass.now c.loop-step.pass c.make_one_hop.new.pass c.loop-step.invariant.back c.make_one_hop.ensures.back;
  busy = (let e = err_from_is_err_and c.from_residual.result c.from_residual.ensures.1 in
      rw (e.1, e.2) (busy_on c.args.self.now _ c.args.pass.now c.loop-step.pass c.make_one_hop.new.pass c.loop-step.invariant.back c.in_err-make_one_hop.ensures.busy));
}

pub loop-step-preserved : goal.loop-step-preserved
loop-step-preserved g c = record {
  back = back_on c.args.self.now c.args.pass.now c.loop-step.pass c.make_one_hop.new.pass c.loop-step.invariant.back c.make_one_hop.ensures.back;
  target = (
      let path = c.args.path.now in
      let items = c.hops_from_end-step-items.result.now in
      next_target path.power path.hops items path.end c.hops_from_end-step-items.ensures c.loop-step.step-index c.loop-step-test.true none
      ∙ ap (λ (l : List PathHop). first_bucket (reverse (take (c.loop-step.step-index + 1) l)) path.end) c.hops_from_end-step-items.ensures
      );
}

pub returns-then-not-branch : goal.returns-then-not-branch
returns-then-not-branch g c = record {
  back = back_on c.args.self.now c.args.pass.now c.loop-step.pass c.make_one_hop.new.pass c.loop-step.invariant.back c.make_one_hop.ensures.back;
  busy = tt;
}
