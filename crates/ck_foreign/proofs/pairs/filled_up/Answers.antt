use Rattle.std.proofs.Common.{ℕ, List, length, ◌++◌, drop, replicate, ◌∙◌, ap}
use Rattle.std.proofs.lemmas.List.{drop-replicate}
use Rattle.ck_foreign.proofs.pairs.filled_up.Goals as goal

pub returns : goal.returns
returns c =
    let bytes = c.args.bytes.now in
    ap (λ (xs : List ℕ). xs ++ drop (length bytes) (replicate 64 0)) c.copy_from_slice.ensures.after
    ∙ ap (λ (xs : List ℕ). bytes ++ xs) (drop-replicate (length bytes) 64 0)
