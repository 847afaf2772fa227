use Rattle.ck_core.specs.Steps.Label.{Renew}
use Rattle.ck_words.proofs.Seating.{ready_on}
use Rattle.ck_words.proofs.Takes.{fits}
use Rattle.ck_words.proofs.Gives.{Went, word_fits, renew_ready, renew_went}
use Rattle.ck_words.proofs.words.Words.renew.Given.{Over}
use Rattle.ck_words.proofs.words.Words.renew.Goals as goal

pub overflow_mul-t : goal.overflow_mul-t
overflow_mul-t g c = word_fits g.K.TableKey.hash _ _ _ _ _ _ _ (fits _ _ _ _ _ _ c.pass.inside.seat.me c.self.view_is c.self.invariant c.pass.view_is c.requires.holds.own) c.args.t c.pass.invariant.seated c.requires.holds.highest c.requires.holds.no_spare

pub store-requires : goal.store-requires
store-requires g c = renew_ready g.K.TableKey.hash _ _ _ _ _ _ _ (fits _ _ _ _ _ _ c.pass.inside.seat.me c.self.view_is c.self.invariant c.pass.view_is c.requires.holds.own) c.args.t c.pass.invariant.seated c.requires.holds.highest c.requires.holds.no_spare g.J.Refuses.refused _ _ c.requires.section c.requires.grounds

-- the stripe went home
went : (g : Over) (c : goal.After-store g) → Went g.K.TableKey.hash c.args.self.now (λ n ks. Renew n ks g.J.Refuses.refused) c.args.pass.now c.store.new.seat.table_id c.store.new.seat.me
went g c = renew_went g.K.TableKey.hash _ _ _ _ _ _ _ (fits _ _ _ _ _ _ c.pass.inside.seat.me c.self.view_is c.self.invariant c.pass.view_is c.requires.holds.own) c.args.t c.pass.invariant.seated c.requires.holds.highest c.requires.holds.no_spare g.J.Refuses.refused _ _ c.store.ensures.0 c.store.ensures.2

pub invariant_of-pass : goal.invariant_of-pass
invariant_of-pass g c = ready_on c.pass.invariant c.store.ensures.0 (went g c).seated

pub returns : goal.returns
returns g c = let w = went g c in record { own = w.own; step = w.sends; unchanged = w.unchanged; no_spare = w.no_spare }
