use Rattle.std.proofs.Common.{rules, refl, ap, subst, map, ◌∙◌, ◌++◌, ◌∷◌, []}
use Rattle.std.specs.FinMap.{from_entries}
use Rattle.std.specs.Ordering.{is_lt, is_eq}
use Rattle.std.proofs.lemmas.List.Sorted.{ranks_by, answers_always}
use Rattle.ck_model.specs.Listing.{named}
use Rattle.ck_model.proofs.Rising.{lists_in_order}
use Rattle.ck_words.specs.Words.{WordsState}
use Rattle.ck_words.specs.Closing.{Closes}
use Rattle.cuckoo_map.proofs.table.Table.close_by.Goals as goal

pub returns-clause-pairs : goal.returns-clause-pairs
returns-clause-pairs g c = (
  from_entries (map (named g.K.TableKey.name) c.in_ok-pairs.pairs.items),
  subst (λ (w : WordsState). Closes g.K.TableKey.hash w.settings (c.args.others.items ++ c.args.pass ∷ []) (from_entries (map (named g.K.TableKey.name) c.in_ok-pairs.pairs.items))) c.self.view_is c.in_ok-pairs.ensures.closed,
  lists_in_order g.K.TableKey.name g.K.Ord.cmp g.met.K.Ord.total
      (λ a b e. (g.met.K.TableKey.equal_names a b).0 (g.met.K.Ord.matches_eq a b ∙ ap is_eq e))
      c.in_ok-pairs.pairs.items c.sort_unstable_by.new.self.items c.sort_unstable_by.ensures.permutation
      (c.sort_unstable_by.ensures.sorted (λ x y. is_lt (g.K.Ord.cmp x.0 y.0)) (ranks_by g.met.K.Ord.total (λ e. e.0)) (answers_always _ _ _ (λ f a r q k. search rules)))
      c.in_ok-pairs.ensures.apart _ refl,
)
