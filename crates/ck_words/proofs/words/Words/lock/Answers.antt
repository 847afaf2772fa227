use Rattle.std.proofs.Common.{ap, sym, subst, ◌∙◌}
use Rattle.ck_model.specs.Contents.{layout_of}
use Rattle.ck_core.specs.declared.view.View.{View}
use Rattle.ck_core.specs.Laws.{Shows}
use Rattle.ck_core.specs.State.{found_held}
use Rattle.ck_words.specs.Retries.{Stays}
use Rattle.ck_words.proofs.words.Words.lock.Goals as goal

-- a stripe was found held to the end
pub returns-in-Err : goal.returns-in-Err
returns-in-Err g c =
    let r = c.in-Err.ensures.refused in
    record { own = r.own; stays = r.stays; held = tt; numbers = tt; unchanged = tt; shows = tt; found = r.found; busy = r.busy; asked = r.asked }

pub settle_taken-requires : goal.settle_taken-requires
settle_taken-requires g c = record { of_table = c.requires.of_table; taken = (c.args.pass.now, c.in_default.ensures.taken) }

pub returns-clause-stays : goal.returns-clause-stays
returns-clause-stays g c = subst (Stays c.args.pass.now.view) (sym c.settle_taken.ensures.view) c.in_default.ensures.taken.stays

pub returns-clause-shows : goal.returns-clause-shows
returns-clause-shows g c =
    subst (λ (v : View g.row.V.Denot). Shows (layout_of g.K.TableKey.hash c.args.self.now.settings) c.args.self.now.settings.callers v.seen v) (sym c.settle_taken.ensures.view) (c.in_default.ensures.taken.shows c.args.set.some)

pub returns-clause-found : goal.returns-clause-found
returns-clause-found g c = let f = c.in_default.ensures.taken.found in (f.0, ap found_held c.settle_taken.ensures.view ∙ f.1, f.2)
