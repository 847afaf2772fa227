use Rattle.std.proofs.Common.{ℕ, List, ◌∙◌, refl, sym, subst}
use Rattle.ck_words.specs.Words.{WordsState}
use Rattle.ck_words.specs.Passes.{IsPassOf}
use Rattle.ck_words.specs.Retries.{IsBusy}
use Rattle.ck_words.specs.StripeSets.{list_of}
use Rattle.ck_words.specs.Holding.{HasTakenAll, Misses}
use Rattle.cuckoo_map.proofs.Sets.{finds_such, busy_such}
use Rattle.cuckoo_map.proofs.Refusing.{found_own, refused_busy}
use Rattle.cuckoo_map.proofs.table.Table.make_waiting.Goals as goal

pub lock_later-requires-clause-missed : goal.lock_later-requires-clause-missed
lock_later-requires-clause-missed g c =
    let p = c.args.since.value in
    (p, subst (λ (x : WordsState × List ℕ). Misses g.K.TableKey.hash x.0 x.1 c.args.missed p c.args.pass.now) (λ j. (sym c.self.view_is j, sym c.stripes_of_key-own.ensures.list j)) c.requires.missed)

-- the stripes were taken later
pub make_locked-requires-clause-taken : goal.make_locked-requires-clause-taken
make_locked-requires-clause-taken g c =
    let p = c.args.since.value in
    let ns = list_of c.stripes_of_key-own.result.stripes in
    let missed = subst (λ (x : WordsState × List ℕ). Misses g.K.TableKey.hash x.0 x.1 c.args.missed p c.args.pass.now) (λ j. (sym c.self.view_is j, sym c.stripes_of_key-own.ensures.list j)) c.requires.missed in
    subst (λ (w : WordsState). HasTakenAll g.K.TableKey.hash w ns p c.lock_later.new.pass) c.self.view_is (c.in-Ok.ensures.taken p missed)

-- or a stripe was found held to the end
pub returns-in-Err-clause-caller : goal.returns-in-Err-clause-caller
returns-in-Err-clause-caller g c =
    let p = c.args.since.value in
    let missed = subst (λ (x : WordsState × List ℕ). Misses g.K.TableKey.hash x.0 x.1 c.args.missed p c.args.pass.now) (λ j. (sym c.self.view_is j, sym c.stripes_of_key-own.ensures.list j)) c.requires.missed in
    let gave = c.in-Err.ensures.refused p missed in
    record {
      own = subst (λ (w : WordsState). IsPassOf w c.lock_later.new.pass) c.self.view_is gave.own;
      idle = gave.busy.0;
      alone = gave.stays.others ∙ c.requires.since.alone;
      number = (c.requires.since.number.0, gave.stays.by ∙ c.requires.since.number.1, c.requires.since.number.2);
    }

pub returns-in-Err-clause-inserted : goal.returns-in-Err-clause-inserted
returns-in-Err-clause-inserted g c =
    let set = c.args.self.now.settings in
    let q = g.K.TableKey.name c.args.key in
    let p = c.args.since.value in
    let z = c.lock_later.new.pass in
    let ns = list_of c.stripes_of_key-own.result.stripes in
    let t = c.in-Err.stripe in
    let missed = subst (λ (x : WordsState × List ℕ). Misses g.K.TableKey.hash x.0 x.1 c.args.missed p c.args.pass.now) (λ j. (sym c.self.view_is j, sym c.stripes_of_key-own.ensures.list j)) c.requires.missed in
    let gave = c.in-Err.ensures.refused p missed in
    let busy = subst (λ (w : WordsState). IsBusy w.settings t p z) c.self.view_is gave.busy in
    record {
      answered = tt;
      refused = (refl, refl, refused_busy g.K.TableKey.hash set q t p z (busy_such ns c.stripes_of_key-own.ensures.exact set p z t gave.stays busy gave.asked));
      found = found_own g.K.TableKey.hash set q p z z (finds_such ns c.stripes_of_key-own.ensures.exact p z gave.found) refl;
    }
