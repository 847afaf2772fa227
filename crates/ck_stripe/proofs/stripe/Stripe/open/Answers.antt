use Rattle.std.proofs.Common.{◌≡◌, ◌≤◌, ◌-◌, ◌*◌, ◌^◌, ◌%◌, true, sym, ap, subst, arith}
use Rattle.std.proofs.Math.Pow.{pow_mono}
use Rattle.std.proofs.lemmas.Nat.{one_shl}
use Rattle.ck_model.specs.declared.contents.Content.{Content}
use Rattle.ck_model.specs.Contents.{IsSound}
use Rattle.ck_stripe.proofs.Writes.{sound_empty}
use Rattle.ck_stripe.proofs.Stored.{content_empty}
use Rattle.ck_stripe.proofs.stripe.Stripe.open.Goals as goal

pub open-requires : goal.open-requires
open-requires g c =
    let shl : 1 * 2 ^ (c.args.power - c.args.s) % 2 ^ 64 ≡ 2 ^ (c.args.power - c.args.s) = one_shl (c.args.power - c.args.s) 64 (omega arith) in
    let less : c.args.power - c.args.s ≤ 26 = omega arith in
    let few : 2 ^ (c.args.power - c.args.s) ≤ 2 ^ 26 = pow_mono less in
    omega (arith, shl, few)

pub returns-clause-value : goal.returns-clause-value
returns-clause-value g c =
    let shl : 1 * 2 ^ (c.args.power - c.args.s) % 2 ^ 64 ≡ 2 ^ (c.args.power - c.args.s) = one_shl (c.args.power - c.args.s) 64 (omega arith) in
    ap (λ (content : Content g.row.V.Denot). record { number = c.args.number; s = c.args.s; content = content; settled = true; room = 2 ^ (c.args.power - c.args.s) })
    (content_empty c.args.s c.args.power _ c.in_ok-rows.rows c.in_ok-rows.ensures shl)

pub returns-clause-sound : goal.returns-clause-sound
returns-clause-sound g c k same most =
    let shl : 1 * 2 ^ (c.args.power - c.args.s) % 2 ^ 64 ≡ 2 ^ (c.args.power - c.args.s) = one_shl (c.args.power - c.args.s) 64 (omega arith) in
    subst (IsSound k c.args.number) (sym (content_empty c.args.s c.args.power _ c.in_ok-rows.rows c.in_ok-rows.ensures shl))
    (sound_empty k c.args.number c.args.s c.args.power same c.requires.number c.requires.least most)
