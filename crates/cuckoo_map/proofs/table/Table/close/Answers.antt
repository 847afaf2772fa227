use Rattle.std.proofs.Common.{◌≡◌, List, [], ◌∷◌, ◌++◌, ◌∙◌, refl, sym, ap, subst, arith}
use Rattle.ck_model.specs.Ranges.{AreInRange}
use Rattle.ck_words.specs.Words.{WordsState}
use Rattle.ck_words.specs.Passes.{PassState}
use Rattle.ck_words.specs.Closing.{AreAllPasses, EachStays, Closes}
use Rattle.ck_words.proofs.Ending.{some_pass, each_stays}
use Rattle.cuckoo_map.proofs.table.Table.close.Goals as goal

pub unreachable-requires : goal.unreachable-requires
unreachable-requires g c =
    let range = subst (λ (w : WordsState). AreInRange w.settings) c.self.view_is c.show_range.ensures in
    let none = c.in_default.ensures.cases.0 in
    let count = c.args.passes.ok.0 in
    some_pass c.args.self c.args.passes.items range.caller c.requires (omega arith)

pub close_by-requires : goal.close_by-requires
close_by-requires g c = subst (AreAllPasses c.args.self) c.in-Some.ensures.items c.requires

pub returns-in-Ok-clause-pairs : goal.returns-in-Ok-clause-pairs
returns-in-Ok-clause-pairs g c =
    let pairs = c.in-Ok.ensures.pairs in
    (pairs.0, subst (λ (ps : List (PassState g.row.V.Denot)). Closes g.K.TableKey.hash c.args.self.settings ps pairs.0) (sym c.in-Some.ensures.items) pairs.1, pairs.2)

pub returns-in-Err-clause-back : goal.returns-in-Err-clause-back
returns-in-Err-clause-back g c =
    let w = c.args.self in
    let o = c.in-Err.field-0 in
    let all = subst (AreAllPasses w) c.in-Some.ensures.items c.requires in
    let others : o.others.items ≡ c.pop.new.self.items = ap (λ v. v.items) c.in-Err.ensures.others in
    let back : c.push_reserved.new.self.items ≡ o.others.items ++ o.pass ∷ [] = c.push_reserved.ensures.items in (
      refl,
      subst (AreAllPasses w) (sym back) c.in-Err.ensures.passes,
      subst (λ (x : List (PassState g.row.V.Denot) × List (PassState g.row.V.Denot)). EachStays x.0 x.1)
          (λ i. (sym c.in-Some.ensures.items i, sym (back ∙ ap (λ ps. ps ++ o.pass ∷ []) others) i))
          (each_stays w c.pop.new.self.items c.in-Some.pass o.pass all c.in-Err.ensures.stays),
    )
