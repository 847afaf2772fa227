use Rattle.ck_format.proofs.Sources.{spelled_of, fault_of}
use Rattle.ck_format.proofs.reader.read_script.Goals as goal

pub returns-clause-spelled : goal.returns-clause-spelled
returns-clause-spelled g c = spelled_of _ _ c.read_all.ensures.spelled

pub returns-clause-fault : goal.returns-clause-fault
returns-clause-fault g c = fault_of _ _ c.read_all.ensures.fault
