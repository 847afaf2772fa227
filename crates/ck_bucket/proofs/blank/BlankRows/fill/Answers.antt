use Rattle.std.proofs.Common.{◌*◌, ◌∙◌, sym, ap, length, arith}
use Rattle.ck_model.specs.Listing.{named}
use Rattle.ck_room.specs.Room.{items_of}
use Rattle.ck_bucket.specs.Bucket.{seen_slots}
use Rattle.ck_bucket.specs.Rows.{in_fours}
use Rattle.ck_bucket.proofs.Fours.{fours-free}
use Rattle.ck_bucket.proofs.SeenRows.{kept-free}
use Rattle.ck_bucket.proofs.blank.BlankRows.fill.Goals as goal

pub invariant_of-result : goal.invariant_of-result
invariant_of-result g c =
    let blank = c.self.invariant.0 in (
      kept-free g.K.TableKey.name g.K.TableKey.hash _ _ c.args.count (length (items_of c.self.inside.heads) * 4) (omega (arith, blank.few, c.self.view_is)) (omega (arith, c.self.view_is)) c.fill.ensures.count c.fill.ensures.full blank.no_pair,
      record { block = c.self.invariant.1.block; behind = c.self.invariant.1.behind ∙ sym c.fill.ensures.block; allocator = c.self.invariant.1.allocator },
    )

pub returns : goal.returns
returns g c =
    ap (λ items. in_fours (seen_slots g.K.TableKey.name items)) c.self.invariant.0.no_pair
    ∙ fours-free (named g.K.TableKey.name) c.args.count (length (items_of c.self.inside.heads) * 4) (omega (arith, c.self.view_is))
