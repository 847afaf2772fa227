use Rattle.std.proofs.Common.{◌∙◌, subst}
use Rattle.ck_stripe.specs.Tables.{AreHeld}
use Rattle.ck_words.specs.Words.{WordsState}
use Rattle.ck_words.specs.Passes.{ShowsSeen}
use Rattle.ck_words.specs.StripeSets.{list_of}
use Rattle.ck_words.specs.Retries.{IsBusy}
use Rattle.cuckoo_map.proofs.Calls.{s_of}
use Rattle.cuckoo_map.proofs.Sets.{finds_such, busy_such, holds_each}
use Rattle.cuckoo_map.proofs.SeveralKeys.{of_names, stripe_of_any}
use Rattle.cuckoo_map.proofs.table.Table.lock_hashed.Goals as goal

pub returns-in-Ok-clause-held : goal.returns-in-Ok-clause-held
returns-in-Ok-clause-held g c qs z =
    let ns = list_of c.of_keys-stripes.result in
    let exact = of_names g.K.TableKey.hash c.args.self.now.settings (s_of c.self.view_is c.settings.ensures.value) ns qs c.args.hashes.now z c.of_keys-stripes.ensures.exact in
    let p2 = c.lock.new.pass in
    let is = c.self.view_is in
    let h = c.in-Ok.ensures in
    record {
      stays = c.lock.ensures.stays;
      owned = λ q i max t of. holds_each ns exact p2.stripes h.numbers t (stripe_of_any g.K.TableKey.hash c.args.self.now.settings qs q t i of);
      of_table = c.of_keys-stripes.ensures.s ∙ s_of is c.settings.ensures.value;
      numbered = h.numbers;
      settled = subst (λ (w : WordsState). AreHeld w.settings.s p2.stripes) is h.held;
      unchanged = h.unchanged;
      shows = subst (λ (w : WordsState). ShowsSeen g.K.TableKey.hash w.settings p2) is h.shows;
    }

pub returns-in-Ok-clause-found : goal.returns-in-Ok-clause-found
returns-in-Ok-clause-found g c qs z =
    let ns = list_of c.of_keys-stripes.result in
    let exact = of_names g.K.TableKey.hash c.args.self.now.settings (s_of c.self.view_is c.settings.ensures.value) ns qs c.args.hashes.now z c.of_keys-stripes.ensures.exact in
    finds_such ns exact c.args.pass.now c.lock.new.pass c.lock.ensures.found

pub returns-in-Err-clause-found : goal.returns-in-Err-clause-found
returns-in-Err-clause-found g c qs z =
    let ns = list_of c.of_keys-stripes.result in
    let exact = of_names g.K.TableKey.hash c.args.self.now.settings (s_of c.self.view_is c.settings.ensures.value) ns qs c.args.hashes.now z c.of_keys-stripes.ensures.exact in
    finds_such ns exact c.args.pass.now c.lock.new.pass c.lock.ensures.found

pub returns-in-Err-clause-busy : goal.returns-in-Err-clause-busy
returns-in-Err-clause-busy g c qs z =
    let ns = list_of c.of_keys-stripes.result in
    let exact = of_names g.K.TableKey.hash c.args.self.now.settings (s_of c.self.view_is c.settings.ensures.value) ns qs c.args.hashes.now z c.of_keys-stripes.ensures.exact in
    let p = c.args.pass.now in
    let p2 = c.lock.new.pass in
    let t = c.in-Err.stripe in
    let busy = subst (λ (w : WordsState). IsBusy w.settings t p p2) c.self.view_is c.in-Err.ensures.busy in
    busy_such ns exact c.args.self.now.settings p p2 t c.lock.ensures.stays busy c.in-Err.ensures.asked
