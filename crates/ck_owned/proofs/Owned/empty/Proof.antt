-- `empty` makes null, where nothing stands.
use Rattle.std.proofs.Common.{◌≡◌, [], ◌∷◌, refl}
use mir.Syntax.{a_type}
use mir.MapTy.{inst_fn}
use base.Logic.{emp}
use base.Fml.{ftrue}
use types.Kit.{‵, raw, ◌⊛◌, ◌$◌, ◌∵◌, !, qed, by, keep, split, fpack, use0}
use types.Run.{lit, no_more, and_then, returns, enter}
use types.ByLocal.{alloc_all, pass_all, free_all, look_at, sets}
use types.Part.{agg}
use contract.Monad.{fact, fact_i}
use contract.Running.{tables}
use denote.RawPtr.{null_ptr}
use denote.Param.{param, layouts}
use denote.Steps.{nothing}
use denote.Triple.Entry.{alive}
use denote.Triple.Walked.{walk_of}
use Rattle.std.specs.declared.option.Option.TheVariants.{None}
use Rattle.std.proofs.raw_atomic.Walks.{proved, leaves}
use Rattle.ck_owned.specs.Place.{place_owns}
use Rattle.ck_owned.proofs.Places.{word, word_fits, struct_of_place}
use Rattle.ck_owned.specs.contracts.Owned.{the_type}
use Rattle.ck_owned.specs.contracts.Owned.empty as f
use Rattle.ck_owned.specs.contracts.Owned.empty.Key.{name as #self}
use Rattle.ck_owned.proofs.Owned.empty.Statement.{statement}
use Rattle.ck_owned.proofs.Owned.empty.Code as code

pub empty_spec : {M : Type 1} → statement M
empty_spec 𝓤 𝓛 𝓜 𝓡 wired T L =
    let 𝓣 = tables 𝓤 𝓛.H 𝓜 𝓡 𝓡.env in let c = f.clauses T 𝓛 𝓜.mem 𝓡.returns in let R = param 0 T in
    let at = layouts (a_type ∷ []) (T, tt) in let fn = inst_fn at code.function in
    proved 𝓛 (f.ended T) tt c 𝓜 𝓡 tt (#self at) fn (code.unfolded 𝓤 𝓛.H 𝓜 𝓡 wired (T, tt)) (λ κs. tt) (λ κs. tt) (λ κs qs bounds a g are.
    let y : (walk_of 𝓛 (f.ended T) tt c).Ghost = ((κs, qs, bounds, a, tt), g) in
    qed 𝓛 ((raw (alive 𝓛 (f.signature T) κs qs) ⊛ ‵ ftrue) ∷ raw ((c κs a).requires g) ∷ []) ∵ split ! $
    enter ! 𝓣.C 𝓣.Λ fn [] _ $ alloc_all ! (λ l. pass_all ! refl tt $
    sets ! (agg ! (and_then ! (lit ! tt) (no_more !))) refl (word_fits null_ptr) $
    returns ! (look_at ! 0 refl) $ free_all ! refl $
    -- [the token; no parameter; the `requires`]
    nothing ! $ fpack ! (null_ptr ≡ null_ptr) (λ _. ftrue) refl $ struct_of_place (the_type R).name (the_type R).types 𝓛 ! null_ptr (place_owns R null_ptr None) $
    use0 𝓛 (raw (fact 𝓤 (None ≡ None))) (fact_i 𝓤 (None ≡ None) (emp 𝓤) refl) $ nothing ! $
    keep ! (3 ∷ 0 ∷ 2 ∷ 1 ∷ []) $ by ! (leaves 𝓛 (f.ended T) tt c y (word null_ptr) (record { at = null_ptr; held = None }) tt tt)))
