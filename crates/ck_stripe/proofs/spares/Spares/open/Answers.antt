use Rattle.std.proofs.Common.{◌≡◌, ◌≤◌, ◌-◌, ◌*◌, ◌%◌, ◌^◌, replicate, sym, ◌∙◌, ap, subst, arith}
use Rattle.ck_stripe.proofs.Spared.{stripes_counted, doubled_counted, few_doubled}
use Rattle.ck_stripe.proofs.spares.Spares.open.Goals as goal

pub loop-init : goal.loop-init
loop-init g c =
    let rows = doubled_counted c.args.s c.args.power c.requires.least c.requires.most in
    record {
      rows = rows;
      few = subst (λ n. n ≤ 2 ^ 26) (sym rows) (few_doubled c.args.s c.args.power c.requires.most);
      made = c.in_ok-blocks.ensures.items;
      room = c.in_ok-blocks.ensures.capacity;
    }

pub returns : goal.returns
returns g c =
    let all = stripes_counted c.args.s c.requires.s in
    let each = c.loop.invariant.rows in
    let end : c.loop.counter ≡ 2 ^ c.args.s = omega (arith, all) in
    c.loop.invariant.made ∙ ap (λ n. replicate n (2 * 2 ^ (c.args.power - c.args.s) % 2 ^ 64)) end ∙ ap (λ n. replicate (2 ^ c.args.s) n) each
