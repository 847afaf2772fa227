-- `exchange`, by the walk that serves each handle.
use Rattle.std.proofs.Common.{refl}
use Rattle.ck_owned.proofs.Exchange.{exchanged}
use Rattle.ck_foreign.specs.PairRows.{text_pairs_row}
use Rattle.ck_foreign.proofs.PairRows.{text_pairs_laws}
use Rattle.ck_foreign.specs.contracts.pair_places.CuckooTextPairs as place
use Rattle.ck_foreign.specs.contracts.pair_places.CuckooTextPairsHoldsTextPairs.exchange.Key.{name as #self}
use Rattle.ck_foreign.proofs.pair_places.CuckooTextPairsHoldsTextPairs.exchange.Statement.{statement}
use Rattle.ck_foreign.proofs.pair_places.CuckooTextPairsHoldsTextPairs.exchange.Code as code

pub exchange_spec : {M : Type 1} → statement M
exchange_spec 𝓤 𝓛 𝓜 𝓡 wired =
    exchanged text_pairs_row text_pairs_laws place.the_type (λ d. d.at) (λ d. d.held) (λ p x. record { at = p; held = x }) (λ p x. refl) (λ p x. refl) (λ p x. refl) (λ d. refl)
    𝓛 𝓜 𝓡 #self (code.unfolded 𝓤 𝓛.H 𝓜 𝓡 wired)
