-- What a pass has done with the stripes that it holds where it has made no call.
use Rattle.std.specs.Prelude.{◌≡◌, ℕ, [], ◌∷◌, reverse}
use Rattle.ck_model.specs.declared.history.Reason.{Reason}
use Rattle.ck_model.specs.declared.settings.Settings.{Settings}
use Rattle.ck_model.specs.Promise.{Name}
use Rattle.ck_model.specs.Contents.{layout_of, Lawful}
use Rattle.ck_model.specs.Sections.{IdentitySection}
use Rattle.ck_stripe.specs.Stripes.{contents_of}
use Rattle.ck_core.specs.State.{found_held}
use Rattle.ck_core.specs.Steps.{noted}
use Rattle.ck_words.specs.Words.{WordsState}
use Rattle.ck_words.specs.Passes.{PassState, IsPassOf, IsIdle}
use Rattle.ck_words.specs.Retries.{StaysBut}

-- From what they contained when they were taken, the held stripes went to what they contain now by no call.
abbrev pub HasRenewed : {V : Type 0} → (Name → ℕ) → Settings → PassState V → Type 0
HasRenewed hash set p = Lawful (layout_of hash set) (reverse p.view.held) → IdentitySection (layout_of hash set) (reverse p.view.held) (contents_of p.stripes)

-- From p to p2 all stripes went home, and the pass noted that this name found no room in them as they were then, for this reason.
pub record HasRefused {V : Type 0} (w : WordsState) (q : Name) (why : Reason) (p p2 : PassState V) : Type 0 where
  pub own : IsPassOf w p2
  pub idle : IsIdle p2
  pub stays : StaysBut (noted q why (contents_of p.stripes) ∷ []) p.view p2.view
  pub found : found_held p2.view ≡ found_held p.view
  pub seen : p2.view.seen ≡ p.view.seen
