-- The text of the workers grows by one worker.
use Rattle.std.proofs.Common.{◌≡◌, ℕ, ◌+◌, ◌<◌, List, [], ◌∷◌, ◌++◌, length, take, get_or, sym, ap, ◌∙◌, arith}
use Rattle.std.specs.Global.{Vec}
use Rattle.std.proofs.lemmas.List.{append_assoc, append-nil, map-append, length-map, length-take-le, take_more}
use Rattle.ck_model.specs.Promise.{Name}
use Rattle.ck_format.specs.declared.script.Keys.{Keys}
use Rattle.ck_format.specs.declared.answer.Answer.{Answer}
use Rattle.ck_format.specs.Text.{Pairs, worker_text, workers_text}
use Rattle.ck_format.specs.Answers.{answers_on_names, lists_on_names}

workers_more : (keys : Keys) (w : ℕ) (lists : List (List (Answer Pairs))) (answers : List (Answer Pairs))
    → workers_text keys w (lists ++ answers ∷ []) ≡ workers_text keys w lists ++ worker_text keys (w + length lists) answers
workers_more keys w [] answers =
    append-nil (worker_text keys w answers) ∙ ap (λ n. worker_text keys n answers) (let e : w ≡ w + 0 = omega arith in e)
workers_more keys w (l ∷ lists) answers =
    let this = worker_text keys w l in
    let rest = workers_text keys (w + 1) lists in
    ap (λ t. this ++ t) (workers_more keys (w + 1) lists answers)
    ∙ sym (append_assoc this rest (worker_text keys (w + 1 + length lists) answers))
    ∙ ap (λ n. this ++ rest ++ worker_text keys n answers) (let e : w + 1 + length lists ≡ w + length (l ∷ lists) = omega arith in e)

module _ {K : Type 0} (name : K → Name) where
  lists_more : (workers : List (Vec (Answer (Vec (K × ℕ))))) (i : ℕ) (answers : Vec (Answer (Vec (K × ℕ)))) → i < length workers → answers ≡ get_or workers i answers
      → lists_on_names name (take (i + 1) workers) ≡ lists_on_names name (take i workers) ++ answers_on_names name answers.items ∷ []
  lists_more workers i answers lt is =
      ap (lists_on_names name) (take_more workers i answers lt ∙ ap (λ (a : Vec (Answer (Vec (K × ℕ)))). take i workers ++ a ∷ []) (sym is))
      ∙ map-append (λ (a : Vec (Answer (Vec (K × ℕ)))). answers_on_names name a.items) (take i workers) (answers ∷ [])

  pub one_more : (keys : Keys) (workers : List (Vec (Answer (Vec (K × ℕ))))) (i : ℕ) (answers : Vec (Answer (Vec (K × ℕ)))) (items : List (Answer (Vec (K × ℕ)))) (front old new : List ℕ)
      → i < length workers → answers ≡ get_or workers i answers → items ≡ answers.items → old ≡ front ++ workers_text keys 1 (lists_on_names name (take i workers))
      → new ≡ old ++ worker_text keys (i + 1) (answers_on_names name items) → new ≡ front ++ workers_text keys 1 (lists_on_names name (take (i + 1) workers))
  one_more keys workers i answers items front old new lt is same before now =
      let lists = lists_on_names name (take i workers) in
      let text = answers_on_names name answers.items in
      let so_far : length lists ≡ i = length-map (take i workers) (λ (a : Vec (Answer (Vec (K × ℕ)))). answers_on_names name a.items) ∙ length-take-le i workers (omega arith) in
      let number : i + 1 ≡ 1 + length lists = omega arith in
      now
      ∙ (λ j. before j ++ worker_text keys (number j) (answers_on_names name (same j)))
      ∙ append_assoc front (workers_text keys 1 lists) (worker_text keys (1 + length lists) text)
      ∙ ap (λ t. front ++ t) (sym (workers_more keys 1 lists text) ∙ ap (workers_text keys 1) (sym (lists_more workers i answers lt is)))
