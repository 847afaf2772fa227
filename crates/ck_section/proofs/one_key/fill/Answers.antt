use Rattle.std.proofs.Common.{refl}
use Rattle.ck_section.proofs.Steps.{put, put_keeps, slot_changes}
use Rattle.ck_section.proofs.one_key.fill.Goals as goal

pub put-requires-clause-reach : goal.put-requires-clause-reach
put-requires-clause-reach g c = c.requires.vacant.slot.reach

pub put-requires-clause-below : goal.put-requires-clause-below
put-requires-clause-below g c = c.requires.vacant.slot.below

pub put-requires-clause-free : goal.put-requires-clause-free
put-requires-clause-free g c = c.requires.vacant.next.0

pub returns-clause-call : goal.returns-clause-call
returns-clause-call g c act reply answers =
    let stripes = g.H.Held.stripes c.args.held.now in
    put g.K.TableKey.hash stripes (g.K.TableKey.name c.args.key) c.args.place c.requires.place stripes refl c.args.at c.requires.vacant act reply c.args.value _ answers c.put.ensures.content

pub returns-clause-rest : goal.returns-clause-rest
returns-clause-rest g c =
    let stripes = g.H.Held.stripes c.args.held.now in
    slot_changes stripes stripes _ c.args.at _ _ refl c.requires.vacant.slot.reach c.put.ensures.content

pub returns-clause-others : goal.returns-clause-others
returns-clause-others g c =
    let stripes = g.H.Held.stripes c.args.held.now in
    put_keeps g.K.TableKey.hash stripes (g.K.TableKey.name c.args.key) c.args.place c.requires.place stripes refl c.args.at c.requires.vacant c.args.value _ _ c.put.ensures.content
