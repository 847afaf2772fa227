use Rattle.std.proofs.Common.{rules, refl, ap, ◌∙◌, ◌++◌, ℕ, List, length, take, drop, Some, None}
use Rattle.std.proofs.Math.Seq.{take-append_seam}
use Rattle.ck_foreign.specs.declared.code.Code.TheVariants as codes
use Rattle.cuckoo_c.proofs.texts.cuckoo_text_pairs_next.Goals as goal

pub returns-in-Some-clause-told : goal.returns-in-Some-clause-told
returns-in-Some-clause-told c =
    let bytes = c.as_bytes-bytes.result.now in
    let rest = drop (length bytes) c.args.key.now in
    λ room. (
      codes.Done,
      search rules,
      (
        Some (c.in-Some.text, c.in-Some.bound),
        c.in-Some.ensures,
        (
          refl,
          ap length c.as_bytes-bytes.ensures.same,
          ap (λ (xs : List ℕ). take (length bytes) (xs ++ rest)) c.copy_from_slice.ensures.after ∙ (take-append_seam bytes rest ∙ c.as_bytes-bytes.ensures.same),
          refl,
        ),
      ),
    )

pub returns-in-None-clause-told : goal.returns-in-None-clause-told
returns-in-None-clause-told c = λ room. (codes.Absent, search rules, (None, c.in-None.ensures, (refl, refl, refl, refl)))
