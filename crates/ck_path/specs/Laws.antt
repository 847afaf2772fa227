-- What a search sees of a table is what stands in it.
use Rattle.std.specs.Prelude.{◌↔◌}
use Rattle.ck_model.specs.Arithmetic.{index_of, second_of}
use Rattle.ck_model.specs.Promise.{Name}
use Rattle.ck_model.specs.Contents.{Layout, Stripes, Lawful, power_of}
use Rattle.ck_model.specs.Sections.{HasAll}
use Rattle.ck_model.specs.Paths.{sketch_in, HasNoPath}
use Rattle.ck_model.specs.Sketches.{HasNoSketchPath}

module _ (V : Type 0) where
  -- In a lawful whole no path for a name is in the sketches of its buckets exactly where no displacement makes room for the name.
  abbrev pub SketchesShowPaths : Type 0
  SketchesShowPaths = (k : Layout) (hs : Stripes V) (q : Name) → Lawful k hs → HasAll k hs
      → HasNoSketchPath (power_of hs) (sketch_in k hs) (index_of (power_of hs) (k.hash q)) (second_of (power_of hs) (k.hash q)) ↔ HasNoPath k hs q
