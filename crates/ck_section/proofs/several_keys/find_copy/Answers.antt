use Rattle.std.proofs.Common.{rules}
use Rattle.ck_model.specs.declared.history.Act.TheVariants.{Find}
use Rattle.ck_model.specs.declared.history.Reply.TheVariants.{Was}
use Rattle.ck_section.proofs.Decided.{IsCallOn}
use Rattle.ck_section.proofs.SeveralKeys.{copied}
use Rattle.ck_section.proofs.several_keys.find_copy.Goals as goal

pub returns-clause-call : goal.returns-clause-call
returns-clause-call g c =
    copied (λ o. IsCallOn g.K.TableKey.hash c.args.place.s (g.H.Held.stripes c.args.held.now) (g.Q.Query.name c.args.key) Find (Was o) (g.H.Held.stripes c.find-value.new.held))
    _ (λ v r x. search rules) _ c.find-value.result.0 c.find-value.ensures.bound c.find-value.ensures.unbound
