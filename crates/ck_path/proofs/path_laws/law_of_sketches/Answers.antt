use Rattle.ck_path.proofs.ShownPaths.{sketches_show_paths}
use Rattle.ck_path.proofs.path_laws.law_of_sketches.Goals as goal

pub returns : goal.returns
returns g c = sketches_show_paths _
