use Rattle.std.proofs.Common.{rules}
use Rattle.cuckoo_c.proofs.texts.cuckoo_text_open.Goals as goal

pub returns-clause-opens : goal.returns-clause-opens
returns-clause-opens c = let e = c.open.ensures in (c.open.result, search rules, (c.settings_for-settings.result, (c.settings_for-settings.ensures.callers, c.settings_for-settings.ensures.turns, c.settings_for-settings.ensures.keys), (λ done. e.opened done), (λ not_done. e.refused not_done), e.told))
