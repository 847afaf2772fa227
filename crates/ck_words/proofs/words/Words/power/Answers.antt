use Rattle.std.proofs.Common.{◌≡◌, ◌∙◌, ap, sym, refl, subst}
use Rattle.ck_words.specs.Passes.{PassState}
use Rattle.ck_words.specs.Retries.{Stays}
use Rattle.ck_core.specs.State.{found_held}
use Rattle.ck_words.proofs.Staying.{gives_none, last_giving, stays_finding, found_times, among_held}
use Rattle.ck_words.proofs.Taking.{found_by_two, has_missed}
use Rattle.ck_words.proofs.Telling.{stays_home, found_home, told_there}
use Rattle.ck_words.proofs.words.Words.power.Goals as goal

pub returns-then-not-try_take-clause-stays : goal.returns-then-not-try_take-clause-stays
returns-then-not-try_take-clause-stays g c =
    let p = c.args.pass.now in let turns = c.args.self.now.settings.turns in
    subst (λ (q : PassState g.row.V.Denot). Stays p.view q.view) (sym c.if-not-try_take.ensures.tries.1) (stays_finding turns 0 c.if-not-try_take.ensures.tries.0 p c.if-not-try_take.ensures.tries.2)

pub returns-then-not-try_take-clause-found : goal.returns-then-not-try_take-clause-found
returns-then-not-try_take-clause-found g c =
    among_held (λ t. t ≡ 0) c.args.self.now.settings.turns 0 c.args.pass.now c.try_take.new.pass refl c.if-not-try_take.ensures.tries

-- the stripe was found held to the end
pub returns-then-not-try_take-clause-busy : goal.returns-then-not-try_take-clause-busy
returns-then-not-try_take-clause-busy g c =
    let p = c.args.pass.now in
    let z = c.try_take.new.pass in
    let turns = c.args.self.now.settings.turns in
    let again = c.if-not-try_take.ensures.tries in
    let found = ap (λ (q : PassState g.row.V.Denot). found_held q.view) again.1 ∙ found_times turns 0 again.0 p in (
      refl,
      (
        (ap (λ (q : PassState g.row.V.Denot). q.stripes) again.1 ∙ c.requires.idle.0, ap (λ (q : PassState g.row.V.Denot). q.view.held) again.1 ∙ c.requires.idle.1),
        last_giving turns 0 p z z again (gives_none z.view),
        found_by_two c.args.self.now turns 0 z (found_held p.view) c.show_range.ensures.turns c.try_take.ensures.own found,
        has_missed c.args.self.now turns 0 z (found_held p.view) c.try_take.ensures.own found,
      ),
    )

pub returns-clause-stays : goal.returns-clause-stays
returns-clause-stays g c =
    stays_home g.K.TableKey.hash c.args.self.now 0 c.args.pass.now c.try_take.new.pass c.power_of_only-power.new.pass c.give_rest.new.pass c.requires.own c.requires.idle c.if-not-try_take.ensures.tries c.try_take.ensures.own c.try_take.ensures.unchanged c.power_of_only-power.ensures.same c.give_rest.ensures.step

pub returns-clause-found : goal.returns-clause-found
returns-clause-found g c =
    found_home g.K.TableKey.hash c.args.self.now 0 c.args.pass.now c.try_take.new.pass c.power_of_only-power.new.pass c.give_rest.new.pass c.requires.own c.requires.idle c.if-not-try_take.ensures.tries c.try_take.ensures.own c.try_take.ensures.unchanged c.power_of_only-power.ensures.same c.give_rest.ensures.step

pub returns-clause-told : goal.returns-clause-told
returns-clause-told g c =
    c.power_of_only-power.ensures.value
    ∙ told_there g.K.TableKey.hash c.args.self.now 0 c.args.pass.now c.try_take.new.pass c.power_of_only-power.new.pass c.give_rest.new.pass c.requires.own c.requires.idle c.if-not-try_take.ensures.tries c.try_take.ensures.own c.try_take.ensures.unchanged c.power_of_only-power.ensures.same c.give_rest.ensures.step
