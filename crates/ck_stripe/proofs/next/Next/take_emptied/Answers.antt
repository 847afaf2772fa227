use Rattle.std.proofs.Common.{◌≡◌, ◌∙◌, ◌-◌, ◌*◌, ◌^◌, ◌%◌, ◌≤◌, sym, subst, arith}
use Rattle.std.proofs.Math.Pow.{pow_mono}
use Rattle.std.proofs.lemmas.Nat.{one_shl}
use Rattle.ck_stripe.specs.Next.{IsFor}
use Rattle.ck_stripe.proofs.next.Next.take_emptied.Goals as goal

pub invariant_of-result : goal.invariant_of-result
invariant_of-result g c =
    let shl : 1 * 2 ^ (c.args.power - c.args.s) % 2 ^ 64 ≡ 2 ^ (c.args.power - c.args.s) = one_shl (c.args.power - c.args.s) 64 (omega arith) in
    let less : c.args.power - c.args.s ≤ 26 = omega arith in
    let few : 2 ^ (c.args.power - c.args.s) ≤ 2 ^ 26 = pow_mono less in
    (omega (arith, shl, few), subst (λ n. IsFor n c.replace-next.result) (sym shl) (subst (IsFor (2 ^ (c.args.power - c.args.s))) (sym c.replace-next.ensures.value) (c.requires.all (sym c.is_emptied.ensures ∙ c.if-not-is_emptied.false))))
