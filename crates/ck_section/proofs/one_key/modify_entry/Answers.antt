use Rattle.std.proofs.Common.{refl}
use Rattle.ck_section.proofs.Steps.{ready}
use Rattle.ck_section.proofs.PutBack.{ready_again, put_back, put_back_changes, put_back_keeps, put_back_free}
use Rattle.ck_section.proofs.one_key.modify_entry.Goals as goal

pub remove-own-requires : goal.remove-own-requires
remove-own-requires g c = ready _ _ _ _ c.requires.place _ refl c.args.at c.requires.occupied

pub put-requires : goal.put-requires
put-requires g c = ready_again _ _ _ _ c.requires.place _ refl c.args.at c.requires.occupied _ _ c.remove-own.result.1 c.remove-own.ensures.entry c.remove-own.ensures.content

pub returns-clause-bound : goal.returns-clause-bound
returns-clause-bound g c = (
  c.remove-own.result.1,
  c.f-value.result.0,
  c.f-value.ensures,
  put_back _ _ _ _ c.requires.place _ refl c.args.at c.requires.occupied _ _ c.remove-own.result.1 c.remove-own.ensures.entry c.remove-own.ensures.content c.f-value.result.0 _ c.put.ensures.content,
)

pub returns-clause-rest : goal.returns-clause-rest
returns-clause-rest g c = put_back_changes _ _ _ _ c.requires.place _ refl c.args.at c.requires.occupied _ _ c.remove-own.result.1 c.remove-own.ensures.entry c.remove-own.ensures.content c.f-value.result.0 _ c.put.ensures.content

pub returns-clause-others : goal.returns-clause-others
returns-clause-others g c = put_back_keeps _ _ _ _ c.requires.place _ refl c.args.at c.requires.occupied _ _ c.remove-own.result.1 c.remove-own.ensures.entry c.remove-own.ensures.content c.f-value.result.0 _ c.put.ensures.content

pub returns-clause-free : goal.returns-clause-free
returns-clause-free g c = put_back_free _ _ _ _ c.requires.place _ refl c.args.at c.requires.occupied _ _ c.remove-own.result.1 c.remove-own.ensures.entry c.remove-own.ensures.content c.f-value.result.0 _ c.put.ensures.content
