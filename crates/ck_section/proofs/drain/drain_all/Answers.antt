use Rattle.std.proofs.Common.{◌≡◌, ◌++◌, ◌∙◌, List, ap, map}
use Rattle.ck_model.specs.Listing.{named}
use Rattle.ck_model.specs.Contents.{pairs_of}
use Rattle.ck_stripe.specs.Stripes.{contents_of}
use Rattle.ck_section.proofs.Table.{few_stripes, lists_bindings}
use Rattle.ck_section.proofs.drain.drain_all.Goals as goal

pub entries-room-requires : goal.entries-room-requires
entries-room-requires g c = few_stripes c.requires.table.0 c.args.stripes.now c.requires.table.1

pub returns-clause-pairs : goal.returns-clause-pairs
returns-clause-pairs g c =
    let name = g.K.TableKey.name in
    let hs = contents_of c.args.stripes.now in
    let all : map (named name) c.drain_reserved.new.pairs.items ≡ pairs_of hs = c.drain_reserved.ensures.pairs ∙ ap (λ (es : List (g.row.K.Denot × g.row.V.Denot)). map (named name) es ++ pairs_of hs) c.in_ok-pairs.ensures.items in
    λ s max lawful. lists_bindings name g.K.Ord.cmp g.K.TableKey.hash s max c.args.stripes.now lawful c.drain_reserved.new.pairs.items c.sort_pairs.new.pairs.items all c.sort_pairs.ensures
