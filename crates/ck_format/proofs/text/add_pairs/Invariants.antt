use Rattle.std.proofs.Common.{◌≡◌, ◌++◌, map, take}
use Rattle.ck_model.specs.Listing.{named}
use Rattle.ck_format.specs.Text.{pairs_text}
use Rattle.ck_format.proofs.text.add_pairs.Given as goal

abbrev pub invariant-loop-pair : goal.invariant-loop-pair
invariant-loop-pair g l = l.out.items ≡ l.initial.out.items ++ pairs_text g.K.WrittenKey.keys (map (named g.K.TableKey.name) (take l.pair-index l.pairs))
