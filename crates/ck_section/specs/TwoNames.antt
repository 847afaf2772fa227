-- What a call on two names does to held stripes.
use Rattle.std.specs.Prelude.{ℕ, List, Some, None}
use Rattle.ck_model.specs.declared.history.Act.TheVariants.{Find, Insert, Erase}
use Rattle.ck_model.specs.declared.history.Call.TheVariants.{ChangeTwo}
use Rattle.ck_model.specs.declared.history.Reply.{Reply}
use Rattle.ck_model.specs.declared.history.Reply.TheVariants.{Was, New}
use Rattle.ck_model.specs.Promise.{Name}
use Rattle.ck_model.specs.Contents.{layout, Lawful}
use Rattle.ck_model.specs.Sections.{Section}
use Rattle.ck_stripe.specs.Stripe.{StripeState}
use Rattle.ck_stripe.specs.Stripes.{contents_of}
use Rattle.ck_section.specs.declared.two_keys.Renamed.{Renamed}
use Rattle.ck_section.specs.declared.two_keys.Renamed.TheVariants.{Done, Unbound, Occupied}
use Rattle.ck_section.specs.Calls.{Effect, IsCall, ChangesContents}

-- where nothing was renamed
abbrev pub OnUnchanged : Renamed → Type 0 → Type 0
OnUnchanged Done P = Unit {0}
OnUnchanged Unbound P = P
OnUnchanged Occupied P = P

module _ {V : Type 0} where
  -- Whatever the greatest power is, lawful stripes go from old to new by a change of the two names, with this reply.
  abbrev pub IsChangeOfTwo : Effect V → Name → Name → Reply V → Type 0
  IsChangeOfTwo e a b reply = (max : ℕ) → Lawful (layout e.hash e.s max) (contents_of e.old) → Section (layout e.hash e.s max) (contents_of e.old) (ChangeTwo a b) reply (contents_of e.new)

  -- Through stripes in between the name q was unbound, which had this value, and r was bound to it, which was unbound.
  pub record RenamesThrough (e : Effect V) (q r : Name) : Type 0 where
    pub value : V
    pub between : List (StripeState V)
    pub erased : IsCall (record e { new = between }) q Erase (Was (Some value))
    pub inserted : IsCall (record e { old = between }) r (Insert value) New
    pub first : ChangesContents e.old between
    pub last : ChangesContents between e.new

  -- the name was found bound
  abbrev pub FindsBound : Effect V → Name → Type 0
  FindsBound e q = (v : V) × IsCall e q Find (Was (Some v))

  -- A rename of q to r came to this: it was done, or q was found unbound, or both were found bound.
  abbrev pub RenamesTo : Effect V → Name → Name → Renamed → Type 0
  RenamesTo e q r Done = RenamesThrough e q r
  RenamesTo e q r Unbound = IsCall e q Find (Was None)
  RenamesTo e q r Occupied = FindsBound e q × FindsBound e r
