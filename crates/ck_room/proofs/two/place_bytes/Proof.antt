-- `place_bytes` gives the size of a type parameter.
use mathlib.Core.Path.{refl}
use mathlib.Core.List.{[], ◌∷◌}
use Prim.Native.Nat.{ℕ, ◌^◌, ◌<◌}
use prog.Capped.{capped_fits}
use mir.Syntax.{Fn, Args, w64, a_type}
use mir.MapTy.{inst_fn}
use mir.Val.{vint}
use base.Fml.{ftrue, flft}
use prog.Memory.{size, capped}
use contract.Running.{tables}
use types.Kit.{‵, raw, ◌⊛◌, ◌$◌, ◌∵◌, !, qed, move, keep, split, join, suffices, done}
use types.Run.{size_word, of_opd, returns, enter}
use types.ByLocal.{alloc_all, pass_all, free_all, look_at, sets}
use denote.Builtin.{usize}
use denote.Param.{layout, layouts}
use denote.Plain.{uint_Makes}
use denote.Steps.{nothing, owned}
use denote.Triple.Walked.{says, ends_at}
use Rattle.std.proofs.raw_atomic.Walks.{proved}
use Rattle.ck_room.specs.contracts.two.place_bytes as F
use Rattle.ck_room.specs.contracts.two.place_bytes.Key.{name as #self}
use Rattle.ck_room.proofs.two.place_bytes.Statement.{statement}
use Rattle.ck_room.proofs.two.place_bytes.Code as code

pub place_bytes_spec : {M : Type 1} → statement M
place_bytes_spec 𝓤 𝓛 𝓜 𝓡 wired X L =
    let inst : Args = layouts (a_type ∷ []) (X, tt) in let fn₀ : Fn = inst_fn inst code.function in let c = F.clauses X 𝓛 𝓜.mem 𝓡.returns in let 𝓣 = tables 𝓤 𝓛.H 𝓜 𝓡 𝓡.env in
    let s : ℕ = capped (size (layout X)) in let fits : s < 2 ^ 64 = capped_fits (size (layout X)) in
    proved 𝓛 (F.ended X) tt c 𝓜 𝓡 tt (#self inst) fn₀ (code.unfolded 𝓤 𝓛.H 𝓜 𝓡 wired (X, tt)) (λ κs. tt) (λ κs. tt) (λ κs qs bounds a g are.
    qed 𝓛 (((‵ (flft κs.0 qs.0) ⊛ ‵ ftrue) ⊛ ‵ ftrue) ∷ raw ((c κs a).requires g) ∷ []) ∵ split ! $ keep ! (0 ∷ []) $ enter ! 𝓣.C 𝓣.Λ fn₀ [] _ $ alloc_all ! (λ l. pass_all ! refl tt $
    sets ! (of_opd ! (size_word !)) refl (tt, record { fits = fits }) $ returns ! (look_at ! 0 refl) $ free_all ! refl $
    suffices ! _ (ends_at 𝓛 (F.ended X) tt c ((κs, qs, bounds, tt, tt), g) (vint w64 s) s tt tt) $ says ! refl $
    owned ! usize _ (uint_Makes 𝓛 w64) s _ (refl, fits) $ nothing ! $ join ! $ move ! (1 ∷ 0 ∷ []) $ join ! $ done !))
