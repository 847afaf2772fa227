-- A write to one of the held stripes is a change of that stripe, and a section of the held ones.
use Rattle.std.proofs.Common.{◌≡◌, ◌≢◌, sym, ◌∙◌, subst, ℕ, Option, Some, None}
use Rattle.std.specs.FinMap.{get}
use Rattle.std.proofs.lemmas.Option.{none-some}
use Rattle.ck_model.specs.declared.history.Act.{Act}
use Rattle.ck_model.specs.declared.history.Call.TheVariants.{On}
use Rattle.ck_model.specs.declared.history.Reply.{Reply}
use Rattle.ck_model.specs.Promise.{Name, Answers}
use Rattle.ck_model.specs.Numbered.{Holds, with_content}
use Rattle.ck_model.specs.declared.contents.Content.{Content}
use Rattle.ck_model.specs.Contents.{Layout, Stripes, bindings, Binds, Lawful}
use Rattle.ck_model.specs.Sections.{Owns, Section}
use Rattle.ck_model.proofs.Found.{bound_from}
use Rattle.ck_model.proofs.Local.{Change, section_in_one}
use Rattle.ck_model.proofs.Writes.{Writes}

module _ {V : Type 0} (k : Layout) (hs : Stripes V) (t : ℕ) (c c2 : Content V) (q : Name) where
  -- a write to the stripe of a name that is in no other
  change_of : Lawful k hs → Holds hs t c → (before after : Option V) → Writes k t c c2 q before after → ((u : ℕ) (d : Content V) (x : V) → u ≢ t → Holds hs u d → Binds d q x → ⊥) → Change k hs t c c2 q
  change_of lawful here before after w elsewhere = record { lawful = lawful; here = here; sound = w.sound; power = w.power; others = w.others; nowhere_else = elsewhere }

  -- a name that the stripe has is in no other
  pub change_of_bound : Lawful k hs → Holds hs t c → (v : V) (o : Option V) → Writes k t c c2 q (Some v) o → Change k hs t c c2 q
  change_of_bound lawful here v o w = change_of lawful here (Some v) o w (λ u d x ne g b. ne (sym (lawful.once t u c d q v x here g w.was b)))

  -- a name that is unbound is in none
  pub change_of_unbound : Lawful k hs → Holds hs t c → (o : Option V) → Writes k t c c2 q None o → get (bindings hs) q ≡ None → Change k hs t c c2 q
  change_of_unbound lawful here o w none = change_of lawful here None o w (λ u d x ne g b. none-some x (sym none ∙ bound_from hs lawful.once lawful.distinct u d q x g b))

  -- a call that is answered by a write to the stripe
  pub section_of_write : Change k hs t c c2 q → (o o2 : Option V) → Writes k t c c2 q o o2 → (act : Act V) (reply : Reply V) → Owns k hs q → Answers act o reply o2 → Section k hs (On q act) reply (with_content t c2 hs)
  section_of_write change o o2 w act reply owns answers =
      section_in_one k hs t c c2 q change act reply owns (subst (λ (x : Option V × Option V). Answers act x.0 reply x.1) (λ i. (sym w.was i, sym w.is i)) answers)
