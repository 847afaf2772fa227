use Rattle.std.proofs.Common.{◌≡◌, ◌%◌, ◌^◌, ◌<◌, ◌∙◌, length, sym, ap, subst}
use Rattle.ck_model.specs.Arithmetic.{partial_of, index_of, second_of}
use Rattle.ck_model.proofs.Buckets.{index_lower, second_lower}
use Rattle.ck_stripe.specs.Stripes.{stripe_at}
use Rattle.ck_section.proofs.AllStripes.{power_read, least_read, reach_of_all}
use Rattle.ck_section.proofs.whole.key_place_in_all.Goals as goal

pub returns-clause-place : goal.returns-clause-place
returns-clause-place g c =
    let stripes = c.args.stripes.now in
    let s = c.args.s in
    let hash = c.hash64-hash.result in
    let named : hash ≡ g.K.TableKey.hash (g.Q.Query.name c.args.key) = c.hash64-hash.ensures in
    let i = c.index-first.result in
    let j = c.second-alternate.result in
    let p = c.power.result in
    let q = c.power-2.result in
    let i_in : i < length stripes = rw c.requires.table.count c.index-first.ensures.below in
    let j_in : j < length stripes = rw c.requires.table.count c.second-alternate.ensures.below in
    let p_is : p ≡ (stripe_at stripes i).content.power = power_read stripes i c.index-stripes-first.result p i_in c.index-stripes-first.is c.power.ensures.value in
    let q_is : q ≡ (stripe_at stripes j).content.power = power_read stripes j c.index-stripes-alternate.result q j_in c.index-stripes-alternate.is c.power-2.ensures.value in
    let i_least = least_read stripes i c.index-stripes-first.result p s i_in c.index-stripes-first.is c.power.ensures.value (c.requires.table.one_s i i_in) c.power.ensures.formed.shaped.least in
    let j_least = least_read stripes j c.index-stripes-alternate.result q s j_in c.index-stripes-alternate.is c.power-2.ensures.value (c.requires.table.one_s j j_in) c.power-2.ensures.formed.shaped.least in
    let i_low : c.index.result % 2 ^ s ≡ i = ap (λ n. n % 2 ^ s) c.index.ensures.value ∙ index_lower s p hash i_least ∙ sym c.index-first.ensures.value in
    let j_low : c.second.result % 2 ^ s ≡ j = ap (λ n. n % 2 ^ s) c.second.ensures.value ∙ second_lower s q hash j_least ∙ sym c.second-alternate.ensures.value in
    let i_below : c.index.result < 2 ^ (stripe_at stripes i).content.power = subst (λ n. c.index.result < 2 ^ n) p_is c.index.ensures.below in
    let j_below : c.second.result < 2 ^ (stripe_at stripes j).content.power = subst (λ n. c.second.result < 2 ^ n) q_is c.second.ensures.below in
    record {
      many = c.requires.table.many;
      one_s = c.requires.table.one_s;
      partial = c.partial-partial.ensures ∙ ap partial_of named;
      first_reach = reach_of_all s stripes c.requires i c.index.result i_in i_below i_low;
      first = c.index.ensures.value ∙ ap (λ n. index_of n hash) p_is ∙ ap (index_of (stripe_at stripes i).content.power) named;
      alternate_reach = reach_of_all s stripes c.requires j c.second.result j_in j_below j_low;
      alternate = c.second.ensures.value ∙ ap (λ n. second_of n hash) q_is ∙ ap (second_of (stripe_at stripes j).content.power) named;
      one = λ e. sym i_low ∙ ap (λ n. n % 2 ^ s) e ∙ j_low;
    }
