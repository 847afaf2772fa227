use Rattle.ck_words.proofs.words.Words.take_set.Goals as goal

-- a stripe was found held to the end
pub returns-in-Err-lock_later-clause-refused : goal.returns-in-Err-lock_later-clause-refused
returns-in-Err-lock_later-clause-refused g c = c.in-Err-lock_later.ensures.refused c.args.pass.now c.in-Err.ensures.missed

-- the stripes were taken later
pub returns-in_default-lock_later-clause-taken : goal.returns-in_default-lock_later-clause-taken
returns-in_default-lock_later-clause-taken g c = c.in_default-lock_later.ensures.taken c.args.pass.now c.in-Err.ensures.missed
