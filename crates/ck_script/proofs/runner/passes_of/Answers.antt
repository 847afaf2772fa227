use Rattle.std.proofs.Common.{[], ◌∷◌, ◌++◌, ◌+◌, ◌∙◌, arith, refl, sym, ap, subst}
use Rattle.std.proofs.lemmas.List.{map-append, length-append}
use Rattle.ck_words.specs.Closing.{IsCaller}
use Rattle.cuckoo_map.specs.Callers.{pass_of}
use Rattle.ck_script.specs.Jobs.{HasPass}
use Rattle.ck_script.proofs.Workers.{all_more}
use Rattle.ck_script.proofs.runner.passes_of.Goals as goal

pub loop-handle-preserved : goal.loop-handle-preserved
loop-handle-preserved g c =
    let before = c.loop-handle.invariant in
    let done = c.loop-handle.yielded in
    let handle = c.in-Some.handle in
    record {
      passes = c.push_reserved.ensures.items ∙ (λ i. before.passes i ++ c.into_pass.ensures.pass i ∷ []) ∙ sym (map-append pass_of done (handle ∷ []));
      own = all_more HasPass done (done ++ handle ∷ []) handle before.own (subst (IsCaller handle.table) c.into_pass.ensures.pass c.into_pass.ensures.caller) refl;
      count = c.push_reserved.ensures.len ∙ ap (λ n. n + 1) before.count ∙ sym (length-append done (handle ∷ []));
      room = omega (arith, before.room, c.push_reserved.ensures.capacity);
    }
