use Rattle.std.proofs.Common.{◌≡◌, ◌∙◌, ◌+◌, Some, IsSome, All, length, map, take, slice_set, ap, sym, subst, arith}
use Rattle.std.proofs.lemmas.List.{length-map}
use Rattle.std.specs.FinMap.{get}
use Rattle.ck_model.specs.Promise.{bound_in}
use Rattle.ck_model.specs.Contents.{bindings}
use Rattle.ck_stripe.specs.Stripes.{contents_of}
use Rattle.ck_words.specs.Passes.{PassState}
use Rattle.cuckoo_map.proofs.UpdatedKeys.{set_bound, all_set, next_written}
use Rattle.cuckoo_map.proofs.table.Table.update_each.Goals as goal

pub loop-i-preserved : goal.loop-i-preserved
loop-i-preserved g c =
    let names = map g.Q.Query.name c.args.keys.now in
    let l = c.loop-i.invariant in
    let e = c.update_one.ensures in
    let i = c.loop-i.i in
    let v = c.index-values-i.result in
    let old = bindings (contents_of c.loop-i.pass.stripes) in
    let new = bindings (contents_of c.update_one.new.pass.stripes) in
    let keys : length names ≡ length c.args.keys.now = length-map c.args.keys.now g.Q.Query.name in
    let bound : length (bound_in old names) ≡ length names = length-map names (get old) in
    let inside = c.loop-i-test.true in
    let as_many = c.requires.as_many in
    let set : bound_in new names ≡ slice_set (bound_in old names) i (Some v) = set_bound old new v e.updated.0 names i (omega arith) l.held.different l.bound e.updated.1 in
    record {
      held = e.held;
      stays = e.stays ∙ ap (λ (p : PassState g.row.V.Denot). record p { stripes = c.update_one.new.pass.stripes }) l.stays;
      bound = subst (All IsSome) (sym set) (all_set (bound_in old names) i v l.bound);
      so_far = ap (take (i + 1)) set ∙ next_written (bound_in old names) c.args.values.now i v (omega arith) (omega arith) c.index-values-i.is l.so_far;
    }
