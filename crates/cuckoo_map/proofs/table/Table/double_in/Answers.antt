use Rattle.cuckoo_map.proofs.Growing.{settles_table, keeps_contents}
use Rattle.cuckoo_map.proofs.LockedGrowing.{all_held, reached_settled}
use Rattle.cuckoo_map.proofs.table.Table.double_in.Goals as goal

pub returns-clause-held : goal.returns-clause-held
returns-clause-held g c = all_held c.args.s c.double_to-grown.new.held.stripes c.settle_all.new.held.stripes c.double_to-grown.ensures.table c.settle_all.ensures.settled

pub returns-clause-no_call : goal.returns-clause-no_call
returns-clause-no_call g c =
    let mid = c.double_to-grown.new.held.stripes in
    let new = c.settle_all.new.held.stripes in
    keeps_contents c.args.s g.K.TableKey.hash c.args.power c.args.whole.now.stripes mid new c.double_to-grown.ensures.no_call
    (settles_table c.args.s mid new c.double_to-grown.ensures.table c.settle_all.ensures.settled).contents

pub returns-clause-reached : goal.returns-clause-reached
returns-clause-reached g c =
    reached_settled c.args.s c.args.power c.double_to-grown.result c.args.whole.now.stripes c.double_to-grown.new.held.stripes c.settle_all.new.held.stripes c.requires.held.settled c.double_to-grown.ensures.table
    c.settle_all.ensures.settled c.double_to-grown.ensures.reached
