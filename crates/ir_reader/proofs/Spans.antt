-- What is read of two parts of a text is what is read of both.
use Rattle.ir_reader.proofs.Common.{◌≡◌, ℕ, ◌+◌, ◌≤◌, List, [], ◌∷◌, ◌++◌, length, map, refl, sym, ap, subst, ◌∙◌, arith, AllByRecursion, IsDistinct, Lexeme, Define, Name, same_name, Entry, Ascend, IsFunction, tokens_of, AreEntries, IsModule, IsCut, Spot, with_front}
use Rattle.std.proofs.Common.{Option, Some, None, Result, Ok, Err, slice_range}
use Rattle.std.specs.Prelude.{IfOk}
use Rattle.std.specs.Result.{result_ok}
use Rattle.std.proofs.lemmas.Option.{same_Some, none-some}
use Rattle.std.proofs.lemmas.Result.{IfOk-at_ok}
use Rattle.ir_lexer.specs.Part.{AreBetween, position}
use Rattle.ir_lexer.specs.Position.{start_of, tokens_left}
use Rattle.ir_lexer.proofs.Between.{between-join, between-all}
use Rattle.ir_items.specs.declared.edges.Edges.{Edges}
use Rattle.ir_items.specs.Joined.{AreItems, later, Meets, AreEdges}
use Rattle.ir_items.proofs.Joined.{range_front, range_back, items-of-cut, items-join, cut-of-items}
use Rattle.std.proofs.lemmas.List.{length-append}
use Rattle.ir_reader.specs.Judgeable.{IsJudgeableEntry}
use Rattle.ir_tree.specs.declared.module.Module.{Module}
use Rattle.ir_reader.specs.declared.beside.Span.{Span}
use Rattle.ir_reader.specs.Beside.{IsSpan}
use Rattle.ir_reader.proofs.Entries.{items-ascend, ascend-end}
use Rattle.ir_reader.proofs.Different.{entry-names}
use Rattle.ir_reader.proofs.Limits.{all-judgeable}

-- ---- entries of joined tokens

entries-append : (tokens : List Lexeme) (xs ys : List Define) (es fs : List Entry) → AreEntries tokens xs es → AreEntries tokens ys fs → AreEntries tokens (xs ++ ys) (es ++ fs)
entries-append tokens [] ys [] fs A B = B
entries-append tokens [] ys (e ∷ es) fs A B = absurd A
entries-append tokens (x ∷ xs) ys [] fs A B = absurd A
entries-append tokens (x ∷ xs) ys (e ∷ es) fs (a, A) B = (a, entries-append tokens xs ys es fs A B)

entries-front : (front back : List Lexeme) (from end : ℕ) (defines : List Define) (es : List Entry) → Ascend from end defines → end ≤ length front → AreEntries front defines es → AreEntries (front ++ back) defines es
entries-front front back from end [] [] A le E = tt
entries-front front back from end [] (e ∷ es) A le E = absurd E
entries-front front back from end (d ∷ ds) [] A le E = absurd E
entries-front front back from end (d ∷ ds) (e ∷ es) (a, b, A) le (E, Es) =
    let rest = ascend-end (d.last + 1) end ds A in
    let same : tokens_of (front ++ back) d ≡ tokens_of front d = range_front front back d.first (d.last + 1) b (omega (arith, rest, le)) in
    (record { name = E.name; function = subst (λ (ts : List Lexeme). IsFunction ts e.function) (sym same) E.function }, entries-front front back (d.last + 1) end ds es A le Es)

entries-back : (front back : List Lexeme) (defines : List Define) (es : List Entry) → AreEntries back defines es → AreEntries (front ++ back) (map (later (length front)) defines) es
entries-back front back [] [] E = tt
entries-back front back [] (e ∷ es) E = absurd E
entries-back front back (d ∷ ds) [] E = absurd E
entries-back front back (d ∷ ds) (e ∷ es) (E, Es) =
    let end : length front + d.last + 1 ≡ length front + (d.last + 1) = omega arith in
    let same : tokens_of (front ++ back) (later (length front) d) ≡ tokens_of back d =
    ap (λ (k : ℕ). slice_range (front ++ back) (length front + d.first) k) end ∙ range_back front back d.first (d.last + 1) in
    (record { name = E.name; function = subst (λ (ts : List Lexeme). IsFunction ts e.function) (sym same) E.function }, entries-back front back ds es Es)

-- ---- spans

-- what a part is whose tokens are a cut
pub span-read : (text : List ℕ) (from : ℕ) (span : Span) (tokens : List Lexeme) (defines : List Define) → AreBetween text from span.after tokens → IsCut tokens (length tokens) defines → AreEntries tokens defines span.entries.items → AreEdges tokens span.edges → IsSpan text from span
span-read text from span tokens defines between cut entries edges = record { tokens = tokens; between = between; defines = defines; items = items-of-cut tokens (length tokens) defines cut; entries = entries; edges = edges }

no-front : (left : Result (List Lexeme) Spot) → with_front [] left ≡ left
no-front (Ok tokens) = refl
no-front (Err spot) = refl

-- what no token is
pub span-none : (text : List ℕ) (from : ℕ) (span : Span) → from ≤ length text → span.entries.items ≡ [] → span.edges ≡ None → span.after ≡ from → IsSpan text from span
span-none text from span within entries edges after = record {
  tokens = [];
  between = subst (λ (k : ℕ). AreBetween text from k []) (sym after) (record { whole = no-front (tokens_left (position text from)); within = within });
  defines = [];
  items = AreItems.nothing;
  entries = subst (λ (es : List Entry). AreEntries [] [] es) (sym entries) tt;
  edges = subst (λ (e : Option Edges). AreEdges [] e) (sym edges) refl;
}

pub span-join : (text : List ℕ) (from : ℕ) (front back whole : Span) → whole.entries.items ≡ front.entries.items ++ back.entries.items → whole.after ≡ back.after
    → ((ours theirs : List Lexeme) → AreEdges ours front.edges → AreEdges theirs back.edges → Meets ours theirs)
    → ((ours theirs : List Lexeme) → AreEdges ours front.edges → AreEdges theirs back.edges → AreEdges (ours ++ theirs) whole.edges)
    → IsSpan text from front → IsSpan text front.after back → IsSpan text from whole
span-join text from front back whole entries after meet edges ours theirs =
    let items = items-join ours.tokens theirs.tokens ours.defines theirs.defines ours.items theirs.items (meet ours.tokens theirs.tokens ours.edges theirs.edges) in
    let count : length ours.tokens + length theirs.tokens ≡ length (ours.tokens ++ theirs.tokens) = sym (length-append ours.tokens theirs.tokens) in
    let defines : List Define = ours.defines ++ map (later (length ours.tokens)) theirs.defines in
    let both = entries-append (ours.tokens ++ theirs.tokens) ours.defines (map (later (length ours.tokens)) theirs.defines) front.entries.items back.entries.items
    (entries-front ours.tokens theirs.tokens 0 (length ours.tokens) ours.defines front.entries.items (items-ascend ours.tokens (length ours.tokens) ours.defines ours.items) (omega arith) ours.entries)
    (entries-back ours.tokens theirs.tokens theirs.defines back.entries.items theirs.entries) in
    record {
      tokens = ours.tokens ++ theirs.tokens;
      between = subst (λ (k : ℕ). AreBetween text from k (ours.tokens ++ theirs.tokens)) (sym after) (between-join text from front.after back.after ours.tokens theirs.tokens ours.between theirs.between);
      defines = defines;
      items = subst (λ (k : ℕ). AreItems (ours.tokens ++ theirs.tokens) k defines) count items;
      entries = subst (λ (es : List Entry). AreEntries (ours.tokens ++ theirs.tokens) defines es) (sym entries) both;
      edges = edges ours.tokens theirs.tokens ours.edges theirs.edges;
    }

entries-length : (tokens : List Lexeme) (defines : List Define) (es : List Entry) → AreEntries tokens defines es → length defines ≡ length es
entries-length tokens [] [] E = refl
entries-length tokens [] (e ∷ es) E = absurd E
entries-length tokens (d ∷ ds) [] E = absurd E
entries-length tokens (d ∷ ds) (e ∷ es) (E, Es) = let rest = entries-length tokens ds es Es in omega (arith, rest)

-- a span from the first token to the end of the text
pub span-module : (text : List ℕ) (from : ℕ) (span : Span) (m : Module) → position text from ≡ start_of text → span.after ≡ length text → length span.entries.items ≤ 4096
    → IsDistinct same_name (map (λ (e : Entry). e.name) span.entries.items) → m.entries ≡ span.entries.items → IsSpan text from span → IsModule text m
span-module text from span m start end few distinct is whole = record {
  tokens = whole.tokens;
  lexed_so = between-all text from whole.tokens start (subst (λ (k : ℕ). AreBetween text from k whole.tokens) end whole.between);
  defines = whole.defines;
  cut = cut-of-items whole.tokens (length whole.tokens) whole.defines whole.items
      (subst (λ (ns : List Name). IsDistinct same_name ns) (sym (entry-names whole.tokens whole.defines span.entries.items whole.entries)) distinct)
      (omega (arith, few, entries-length whole.tokens whole.defines span.entries.items whole.entries));
  entries = subst (λ (es : List Entry). AreEntries whole.tokens whole.defines es) (sym is) whole.entries;
}

pub span-judgeable : (text : List ℕ) (from : ℕ) (span : Span) → IsSpan text from span → AllByRecursion IsJudgeableEntry span.entries.items
span-judgeable text from span whole = all-judgeable whole.tokens whole.defines span.entries.items whole.entries

-- ---- results that are kept as options

pub ok-some : {A E : Type 0} (r : Result A E) (x : A) → result_ok r ≡ Some x → r ≡ Ok x
ok-some (Ok y) x e = ap (λ z. Ok z) (same_Some y x e)
ok-some (Err fault) x e = absurd (none-some x e)

pub if-some : {A E : Type 0} (P : A → Type 0) (r : Result A E) (x : A) → result_ok r ≡ Some x → IfOk r P → P x
if-some P r x e p = IfOk-at_ok P (ok-some r x e) p
