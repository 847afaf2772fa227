use Rattle.ck_core.proofs.Meeting.{meeting_opens, meeting_runs}
use Rattle.ck_core.proofs.example.example_meeting.Goals as goal

pub returns : goal.returns
returns c = record { opening = meeting_opens; history = meeting_runs }
