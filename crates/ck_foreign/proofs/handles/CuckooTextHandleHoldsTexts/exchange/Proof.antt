-- `exchange`, by the walk that serves each handle.
use Rattle.std.proofs.Common.{refl}
use Rattle.ck_owned.proofs.Exchange.{exchanged}
use Rattle.ck_foreign.specs.Payloads.{text_row}
use Rattle.ck_foreign.proofs.Payloads.{text_row_laws}
use Rattle.ck_foreign.specs.contracts.handles.CuckooTextHandle as handle
use Rattle.ck_foreign.specs.contracts.handles.CuckooTextHandleHoldsTexts.exchange.Key.{name as #self}
use Rattle.ck_foreign.proofs.handles.CuckooTextHandleHoldsTexts.exchange.Statement.{statement}
use Rattle.ck_foreign.proofs.handles.CuckooTextHandleHoldsTexts.exchange.Code as code

pub exchange_spec : {M : Type 1} → statement M
exchange_spec 𝓤 𝓛 𝓜 𝓡 wired =
    exchanged text_row text_row_laws handle.the_type (λ d. d.at) (λ d. d.held) (λ p x. record { at = p; held = x }) (λ p x. refl) (λ p x. refl) (λ p x. refl) (λ d. refl)
    𝓛 𝓜 𝓡 #self (code.unfolded 𝓤 𝓛.H 𝓜 𝓡 wired)
