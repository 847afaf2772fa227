use Rattle.std.proofs.Common.{◌≡◌, ℕ, List, length, Option, Some, None, Result, Ok, Err, IfOk, IfErr, IsOkAnd, MatchResult, rules, ap, refl, sym, subst, ◌∙◌, arith}
use Rattle.std.specs.Prelude.{codes}
use Rattle.std.proofs.lemmas.Slice.Eq.{text_from_reads, HasBytesAt}
use Rattle.ck_model.specs.Promise.{Name}
use Rattle.ck_format.specs.declared.script.Command.TheVariants.{Insert, Assign, Update, Add}
use Rattle.ck_format.specs.declared.script.Keys.{Keys}
use Rattle.ck_format.specs.declared.script.What.{What}
use Rattle.ck_format.specs.Script.{on_names, OnTextFault}
use Rattle.ck_format.specs.Parse.{WordCommand, pair_command, with_pair, number_behind, name_of, SaysOnNames}
use Rattle.ck_format.proofs.Commands.{says_pair}
use Rattle.ck_format.proofs.Reading.{on_text_fault-map}
use Rattle.ck_format.proofs.line.on_pair.Goals as goal

-- the command of this name says what was read
said : (keys : Keys) (name known key word : List ℕ) (make : Name → ℕ → WordCommand) (n : ℕ) (q : Name) → length name ≡ length known → HasBytesAt name 0 known → pair_command known ≡ Some make
    → number_behind keys key word ≡ Ok n → q ≡ name_of keys key → make (name_of keys key) n ≡ on_names (name_of keys) (make key n) → SaysOnNames keys (with_pair (pair_command name) key (number_behind keys key word)) (make q n)
said keys name known key word make n q long bytes command number named same =
    says_pair keys (pair_command name) make key word n (make q n) (ap pair_command (text_from_reads name known long bytes) ∙ command) number (ap (λ (p : Name). make p n) named ∙ same)

-- what has P where the closure of a `map` made it
mapped : {A B E : Type 0} (r : Result A E) (made : Result B E) (post : A → B → Type 0) (Q R : A → Type 0) (P : B → Type 0) → MatchResult r (λ x. IsOkAnd made (post x)) (λ e. made ≡ Err e) → IfOk r Q → IfOk r R
    → ((x : A) (y : B) → Q x → R x → post x y → P y) → IfOk made P
mapped (Ok x) (Ok y) post Q R P cases q r gives = gives x y q r cases
mapped (Ok x) (Err e) post Q R P cases q r gives = absurd cases
mapped (Err e) made post Q R P cases q r gives = subst (λ m. IfOk m P) (sym cases) tt

-- what the error is, where it was one
passed : {A B E : Type 0} (r : Result A E) (made : Result B E) (post : A → B → Type 0) (R P : E → Type 0) → MatchResult r (λ x. IsOkAnd made (post x)) (λ e. made ≡ Err e) → IfErr r R → ((e : E) → R e → P e) → IfErr made P
passed (Ok x) (Ok y) post R P cases r gives = tt
passed (Ok x) (Err e) post R P cases r gives = absurd cases
passed (Err e) made post R P cases r gives = subst (λ m. IfErr m P) (sym cases) (gives e r)

-- what is wrong with the key or the number is wrong with the command
fails : (command : Option (List ℕ → ℕ → WordCommand)) (make : List ℕ → ℕ → WordCommand) (key : List ℕ) (number : Result ℕ What) (what : What) → command ≡ Some make → number ≡ Err what → with_pair command key number ≡ Err what
fails command make key number what named wrong = rw (named, wrong) refl

failed : (keys : Keys) (name known key word : List ℕ) (make : Name → ℕ → WordCommand) (what : What) → length name ≡ length known → HasBytesAt name 0 known → pair_command known ≡ Some make
    → OnTextFault what (number_behind keys key word ≡ Err what) → OnTextFault what (with_pair (pair_command name) key (number_behind keys key word) ≡ Err what)
failed keys name known key word make what long bytes command wrong =
    let named = ap pair_command (text_from_reads name known long bytes) ∙ command in
    on_text_fault-map what (λ e. fails (pair_command name) make key (number_behind keys key word) what named e) wrong

pub returns-in-insert-clause-ok : goal.returns-in-insert-clause-ok
returns-in-insert-clause-ok g c =
    let r = c.key_and_number-in-insert in
    mapped r.result c.map-in-insert.result _ _ _ _ c.map-in-insert.ensures.cases r.ensures.name r.ensures.ok
    (λ x y named number made.
    let is : y ≡ Insert x.0 x.1 = search made in
    rw is (said g.K.ScriptKey.kind c.args.name.now (codes "insert") c.args.key.now c.args.word.now (λ k n. Insert k n) x.1 _ (omega arith) (search arith) refl number named refl))

pub returns-in-insert-clause-err : goal.returns-in-insert-clause-err
returns-in-insert-clause-err g c =
    let r = c.key_and_number-in-insert in
    passed r.result c.map-in-insert.result _ _ _ c.map-in-insert.ensures.cases r.ensures.err
    (λ what wrong. failed g.K.ScriptKey.kind c.args.name.now (codes "insert") c.args.key.now c.args.word.now (λ k n. Insert k n) what (omega arith) (search arith) refl wrong)

pub returns-in-assign-clause-ok : goal.returns-in-assign-clause-ok
returns-in-assign-clause-ok g c =
    let r = c.key_and_number-in-assign in
    mapped r.result c.map-in-assign.result _ _ _ _ c.map-in-assign.ensures.cases r.ensures.name r.ensures.ok
    (λ x y named number made.
    let is : y ≡ Assign x.0 x.1 = search made in
    rw is (said g.K.ScriptKey.kind c.args.name.now (codes "assign") c.args.key.now c.args.word.now (λ k n. Assign k n) x.1 _ (omega arith) (search arith) refl number named refl))

pub returns-in-assign-clause-err : goal.returns-in-assign-clause-err
returns-in-assign-clause-err g c =
    let r = c.key_and_number-in-assign in
    passed r.result c.map-in-assign.result _ _ _ c.map-in-assign.ensures.cases r.ensures.err
    (λ what wrong. failed g.K.ScriptKey.kind c.args.name.now (codes "assign") c.args.key.now c.args.word.now (λ k n. Assign k n) what (omega arith) (search arith) refl wrong)

pub returns-in-update-clause-ok : goal.returns-in-update-clause-ok
returns-in-update-clause-ok g c =
    let r = c.key_and_number-in-update in
    mapped r.result c.map-in-update.result _ _ _ _ c.map-in-update.ensures.cases r.ensures.name r.ensures.ok
    (λ x y named number made.
    let is : y ≡ Update x.0 x.1 = search made in
    rw is (said g.K.ScriptKey.kind c.args.name.now (codes "update") c.args.key.now c.args.word.now (λ k n. Update k n) x.1 _ (omega arith) (search arith) refl number named refl))

pub returns-in-update-clause-err : goal.returns-in-update-clause-err
returns-in-update-clause-err g c =
    let r = c.key_and_number-in-update in
    passed r.result c.map-in-update.result _ _ _ c.map-in-update.ensures.cases r.ensures.err
    (λ what wrong. failed g.K.ScriptKey.kind c.args.name.now (codes "update") c.args.key.now c.args.word.now (λ k n. Update k n) what (omega arith) (search arith) refl wrong)

pub returns-in-add-clause-ok : goal.returns-in-add-clause-ok
returns-in-add-clause-ok g c =
    let r = c.key_and_number in
    mapped r.result c.map.result _ _ _ _ c.map.ensures.cases r.ensures.name r.ensures.ok
    (λ x y named number made.
    let is : y ≡ Add x.0 x.1 = search made in
    rw is (said g.K.ScriptKey.kind c.args.name.now (codes "add") c.args.key.now c.args.word.now (λ k n. Add k n) x.1 _ (omega arith) (search arith) refl number named refl))

pub returns-in_default-clause-err : goal.returns-in_default-clause-err
returns-in_default-clause-err g c =
    let none : pair_command c.args.name.now ≡ None = search rules in
    ap (λ o. with_pair o c.args.key.now (number_behind g.K.ScriptKey.kind c.args.key.now c.args.word.now)) none
