-- A text begins in one way.
use Rattle.std.proofs.Common.{◌≡◌, ◌<◌, ◌+◌, ℕ, false, true, List, [], ◌∷◌, ◌++◌, length, drop, refl, sym, ap, subst, ◌∙◌, arith, append_assoc, length-append}
use Rattle.std.proofs.lemmas.List.{drop_at}
use Rattle.lint_base.specs.declared.place.Fault.{Fault}
use Rattle.lint_base.specs.declared.place.Refusal.{Refusal}
use Rattle.sql_lex.specs.declared.token.Kind.{Kind}
use Rattle.sql_lex.specs.declared.token.Token.{Token}
use Rattle.sql_lex.specs.Gaps.{is_gap, is_last_gap}
use Rattle.sql_lex.specs.Tokens.{Begins, BeginsWith, Spells}
use Rattle.sql_lex.specs.Faults.{IsFaulty}
use Rattle.sql_lex.specs.inner.Lexing.{Finding, lexeme, flaw, after_gap, first_found}
use Rattle.sql_lex.proofs.LexGaps.{gap_again, last_again}
use Rattle.reading_laws.proofs.LexAgain.{found_again, token_begun}
use Rattle.reading_laws.proofs.LexFaults.{fault_again, fault_begun}

-- behind a gap something was found, at a place
pub record Finds (at : ℕ) (text : List ℕ) (found : Finding) (place : ℕ) : Type 0 where
  pub first : found ≡ first_found (after_gap false text)
  pub some : 0 < length (after_gap false text)
  pub there : place + length (after_gap false text) ≡ at + length text

-- behind a gap is this text
finds : (at : ℕ) (text gap inner : List ℕ) (found : Finding) (place : ℕ) → text ≡ gap ++ inner → is_gap gap ≡ true → after_gap false inner ≡ inner → 0 < length inner → first_found inner ≡ found → place ≡ at + length gap
    → Finds at text found place
finds at text gap inner found place whole between dark some first there =
    let behind : after_gap false text ≡ inner = ap (after_gap false) whole ∙ gap_again false gap inner between dark in
    let count : length text ≡ length gap + length inner = ap length whole ∙ length-append gap inner in
    record {
      first = sym first ∙ ap first_found (sym behind);
      some = subst (λ (x : List ℕ). 0 < length x) (sym behind) some;
      there = ap (λ (x : List ℕ). place + length x) behind ∙ omega arith;
    }

-- a token and what comes after it
pub record IsStep (at : ℕ) (text : List ℕ) (token : Token) (rest : List ℕ) : Type 0 where
  pub len : ℕ
  pub finds : Finds at text (lexeme token.kind len) token.span.from
  pub left : rest ≡ drop len (after_gap false text)
  pub to : token.span.to ≡ token.span.from + len

pub step_of : (at : ℕ) (text : List ℕ) (token : Token) (rest : List ℕ) → Begins at text token rest → IsStep at text token rest
step_of at text token rest b =
    let inner = b.body ++ rest in
    let whole : text ≡ b.gap ++ inner = b.whole ∙ append_assoc b.gap b.body rest in
    let begun = token_begun token.kind b.body rest b.spelled b.longest in
    let behind : after_gap false text ≡ inner = ap (after_gap false) whole ∙ gap_again false b.gap inner b.between begun.dark in
    record {
      len = length b.body;
      finds = finds at text b.gap inner (lexeme token.kind (length b.body)) token.span.from whole b.between begun.dark begun.some (found_again token.kind b.body rest b.spelled b.longest) b.from;
      left = sym (ap (λ (x : List ℕ). drop (length b.body) x) behind ∙ drop_at b.body rest (length b.body) refl);
      to = b.to ∙ ap (λ (n : ℕ). n + length b.body) (sym b.from);
    }

-- two such steps are one
found_one : (at : ℕ) (text : List ℕ) (f g : Finding) (m n : ℕ) → Finds at text f m → Finds at text g n → (f ≡ g) × (m ≡ n)
found_one at text f g m n a b = (a.first ∙ sym b.first, let x = a.there in let y = b.there in omega arith)

pub record SameStep (t u : Token) (rest left : List ℕ) : Type 0 where
  pub token : t ≡ u
  pub behind : rest ≡ left

token_made : (t : Token) (k : Kind) (from to : ℕ) → t.kind ≡ k → t.span.from ≡ from → t.span.to ≡ to → t ≡ record { kind = k; span = record { from = from; to = to } }
token_made t k from to a b c = rw (← a, ← b, ← c) refl

token_is : (t u : Token) → t.kind ≡ u.kind → t.span.from ≡ u.span.from → t.span.to ≡ u.span.to → t ≡ u
token_is t u a b c = token_made t u.kind u.span.from u.span.to a b c

pub step_one : (at : ℕ) (text : List ℕ) (t u : Token) (rest left : List ℕ) → Begins at text t rest → Begins at text u left → SameStep t u rest left
step_one at text t u rest left begins began =
    let a = step_of at text t rest begins in
    let b = step_of at text u left began in
    let same = found_one at text (lexeme t.kind a.len) (lexeme u.kind b.len) t.span.from u.span.from a.finds b.finds in
    let f : lexeme t.kind a.len ≡ lexeme u.kind b.len = same.0 in
    let place : t.span.from ≡ u.span.from = same.1 in
    let kinds : t.kind ≡ u.kind = cc in
    let lens : a.len ≡ b.len = cc in
    let to_a = a.to in
    let to_b = b.to in
    record {
      token = token_is t u kinds place (omega arith);
      behind = a.left ∙ ap (λ (n : ℕ). drop n (after_gap false text)) lens ∙ sym b.left;
    }

-- no token and no fault comes where only a gap is left
nothing_found : (at : ℕ) (text : List ℕ) (found : Finding) (place : ℕ) → Finds at text found place → is_last_gap text ≡ true → ⊥
nothing_found at text found place f last =
    let some = subst (λ (x : List ℕ). 0 < length x) (last_again false text last) f.some in
    omega arith

-- a fault behind a gap
pub record Stops (at : ℕ) (text : List ℕ) (refusal : Refusal) : Type 0 where
  pub len : ℕ
  pub finds : Finds at text (flaw refusal.fault len) refusal.span.from
  pub to : refusal.span.to ≡ refusal.span.from + len
  pub count : refusal.count ≡ 0

pub stops_of : (at : ℕ) (text : List ℕ) (refusal : Refusal) (f : IsFaulty at text refusal) → Stops f.end f.rest refusal
stops_of at text refusal f =
    let begun = fault_begun refusal.fault f.from_fault f.len f.is_fault in
    record {
      len = f.len;
      finds = finds f.end f.rest f.gap f.from_fault (flaw refusal.fault f.len) refusal.span.from f.whole f.between begun.dark begun.some (fault_again refusal.fault f.from_fault f.len f.is_fault) f.from;
      to = f.to ∙ ap (λ (n : ℕ). n + f.len) (sym f.from);
      count = f.count;
    }

refusal_made : (r : Refusal) (f : Fault) (from to count : ℕ) → r.fault ≡ f → r.span.from ≡ from → r.span.to ≡ to → r.count ≡ count → r ≡ record { fault = f; span = record { from = from; to = to }; count = count }
refusal_made r f from to count a b c d = rw (← a, ← b, ← c, ← d) refl

refusal_is : (r s : Refusal) → r.fault ≡ s.fault → r.span.from ≡ s.span.from → r.span.to ≡ s.span.to → r.count ≡ s.count → r ≡ s
refusal_is r s a b c d = refusal_made r s.fault s.span.from s.span.to s.count a b c d

stop_one : (at : ℕ) (text : List ℕ) (r s : Refusal) → Stops at text r → Stops at text s → r ≡ s
stop_one at text r s a b =
    let same = found_one at text (flaw r.fault a.len) (flaw s.fault b.len) r.span.from s.span.from a.finds b.finds in
    let f : flaw r.fault a.len ≡ flaw s.fault b.len = same.0 in
    let place : r.span.from ≡ s.span.from = same.1 in
    let faults : r.fault ≡ s.fault = cc in
    let lens : a.len ≡ b.len = cc in
    let to_a = a.to in
    let to_b = b.to in
    refusal_is r s faults place (omega arith) (a.count ∙ sym b.count)

token_or_fault : (at : ℕ) (text : List ℕ) (token : Token) (rest : List ℕ) (refusal : Refusal) → Begins at text token rest → Stops at text refusal → ⊥
token_or_fault at text token rest refusal begins stop =
    let a = step_of at text token rest begins in
    let clash : lexeme token.kind a.len ≡ flaw refusal.fault stop.len = (found_one at text _ _ _ _ a.finds stop.finds).0 in
    absurd cc

-- what comes behind a token, told of the same token and the same rest
moved : (at : ℕ) (t u : Token) (us : List Token) (rest left text : List ℕ) (end : ℕ) → SameStep t u rest left → BeginsWith u.span.to left us text end → BeginsWith t.span.to rest us text end
moved at t u us rest left text end same b =
    subst (λ (x : List ℕ). BeginsWith t.span.to x us text end) (sym same.behind) (subst (λ (x : Token). BeginsWith x.span.to left us text end) (sym same.token) b)

tokens_one : (at : ℕ) (text : List ℕ) (ts us : List Token) (rest left : List ℕ) (end other : ℕ) → BeginsWith at text ts rest end → is_last_gap rest ≡ true → BeginsWith at text us left other → is_last_gap left ≡ true → ts ≡ us
tokens_one at text [] [] rest left end other a last b gone = refl
tokens_one at text [] (u ∷ us) rest left end other (same, here) last (next, first, b) gone =
    absurd (nothing_found at text _ _ (step_of at text u next first).finds (ap is_last_gap same ∙ last))
tokens_one at text (t ∷ ts) [] rest left end other (next, first, a) last (same, here) gone =
    absurd (nothing_found at text _ _ (step_of at text t next first).finds (ap is_last_gap same ∙ gone))
tokens_one at text (t ∷ ts) (u ∷ us) rest left end other (next, first, a) last (then, second, b) gone =
    let same = step_one at text t u next then first second in
    ap (λ (x : List Token). t ∷ x) (tokens_one t.span.to next ts us rest left end other a last (moved at t u us next then left other same b) gone) ∙ ap (λ (x : Token). x ∷ us) same.token

tokens_apart : (at : ℕ) (text : List ℕ) (ts us : List Token) (rest left : List ℕ) (end other : ℕ) (refusal : Refusal) → BeginsWith at text ts rest end → is_last_gap rest ≡ true → BeginsWith at text us left other → Stops other left refusal → ⊥
tokens_apart at text [] [] rest left end other refusal (same, here) last (as_well, there) stop =
    nothing_found other left _ _ stop.finds (ap is_last_gap (sym as_well ∙ same) ∙ last)
tokens_apart at text [] (u ∷ us) rest left end other refusal (same, here) last (next, first, b) stop =
    nothing_found at text _ _ (step_of at text u next first).finds (ap is_last_gap same ∙ last)
tokens_apart at text (t ∷ ts) [] rest left end other refusal (next, first, a) last (same, here) stop =
    token_or_fault other left t next refusal (subst (λ (n : ℕ). Begins n left t next) here (subst (λ (x : List ℕ). Begins at x t next) same first)) stop
tokens_apart at text (t ∷ ts) (u ∷ us) rest left end other refusal (next, first, a) last (then, second, b) stop =
    tokens_apart t.span.to next ts us rest left end other refusal a last (moved at t u us next then left other (step_one at text t u next then first second) b) stop

refusals_one : (at : ℕ) (text : List ℕ) (ts us : List Token) (rest left : List ℕ) (end other : ℕ) (r s : Refusal) → BeginsWith at text ts rest end → Stops end rest r → BeginsWith at text us left other → Stops other left s → r ≡ s
refusals_one at text [] [] rest left end other r s (same, here) stop (as_well, there) halt =
    stop_one at text r s (subst (λ (n : ℕ). Stops n text r) (sym here) (subst (λ (x : List ℕ). Stops end x r) (sym same) stop)) (subst (λ (n : ℕ). Stops n text s) (sym there) (subst (λ (x : List ℕ). Stops other x s) (sym as_well) halt))
refusals_one at text [] (u ∷ us) rest left end other r s (same, here) stop (next, first, b) halt =
    absurd (token_or_fault end rest u next r (subst (λ (n : ℕ). Begins n rest u next) here (subst (λ (x : List ℕ). Begins at x u next) same first)) stop)
refusals_one at text (t ∷ ts) [] rest left end other r s (next, first, a) stop (same, here) halt =
    absurd (token_or_fault other left t next s (subst (λ (n : ℕ). Begins n left t next) here (subst (λ (x : List ℕ). Begins at x t next) same first)) halt)
refusals_one at text (t ∷ ts) (u ∷ us) rest left end other r s (next, first, a) stop (then, second, b) halt =
    refusals_one t.span.to next ts us rest left end other r s a stop (moved at t u us next then left other (step_one at text t u next then first second) b) halt

pub one_list : (at : ℕ) (text : List ℕ) (ts us : List Token) → Spells at text ts → Spells at text us → ts ≡ us
one_list at text ts us a b = tokens_one at text ts us a.rest b.rest a.end b.end a.begins a.last b.begins b.last

pub spelled_or_faulty : (at : ℕ) (text : List ℕ) (ts : List Token) (refusal : Refusal) → Spells at text ts → IsFaulty at text refusal → ⊥
spelled_or_faulty at text ts refusal a f = tokens_apart at text ts f.tokens a.rest f.rest a.end f.end refusal a.begins a.last f.before (stops_of at text refusal f)

pub one_fault : (at : ℕ) (text : List ℕ) (r s : Refusal) → IsFaulty at text r → IsFaulty at text s → r ≡ s
one_fault at text r s f g = refusals_one at text f.tokens g.tokens f.rest g.rest f.end g.end r s f.before (stops_of at text r f) g.before (stops_of at text s g)
