-- Two answers that meet the contract of one call, on images that agree, are the same answer.
use Prim.Native.Nat.{ℕ}
use mathlib.Core.Path.{◌≡◌, sym, ap, ap₂, ◌∙◌}
use mathlib.Core.List.{List}
use Rattle.rules.specs.Outcome.{Outcome, EntryNumbers, ListedNumbers}
use Rattle.rules.specs.History.{Agree, SameAnswer}
use Rattle.rules.specs.Records.{RecordsNumbers}
use Rattle.contracts.specs.Promises.{Finds, Lists, ListsAll, Reads}
use Rattle.contracts.specs.declared.Entry.{Entry}
use Rattle.contracts.specs.declared.Listed.{Listed}
use Rattle.contracts.specs.declared.Content.{Content}
use Rattle.contracts.specs.declared.Records.{Records}
use Rattle.two_images.proofs.TwoImages.{two-images, all_alike}

-- ---- an answer is its refusal and its numbers
abbrev entry_of : ℕ → EntryNumbers → Entry
entry_of n a = record { refusal = n; kind = a.kind; slot = a.slot; start = a.start; end = a.end; length = a.length; stamp = a.stamp }

abbrev listed_of : ℕ → ListedNumbers → Listed
listed_of n a = record {
  refusal = n;
  kind = a.found.kind;
  slot = a.found.slot;
  start = a.found.start;
  end = a.found.end;
  length = a.found.length;
  stamp = a.found.stamp;
  path_length = a.path_length;
}

abbrev content_of : ℕ → ℕ → Content
content_of n k = record { refusal = n; length = k }

abbrev records_of : ℕ → RecordsNumbers → Records
records_of n a = record { refusal = n; count = a.count; length = a.length; next = a.next }

-- ---- outcomes with the same answer
module _ {A : Type 0} {o p q r : Outcome A} (first : q ≡ o) (second : r ≡ p) (same : SameAnswer o p) where
  refusals : q.refusal ≡ r.refusal
  refusals = ap (λ x. x.refusal) first ∙ same.refusals ∙ sym (ap (λ x. x.refusal) second)

  answers : q.answer ≡ r.answer
  answers = ap (λ x. x.answer) first ∙ same.answers ∙ sym (ap (λ x. x.answer) second)

  outputs : q.output ≡ r.output
  outputs = ap (λ x. x.output) first ∙ same.outputs ∙ sym (ap (λ x. x.output) second)

module _ (s t : List ℕ) (agree : Agree s t) where
  pub same-found : (path : List ℕ) (a b : Entry) → Finds s path a → Finds t path b → a ≡ b
  same-found path a b e f =
      let h = (two-images s t agree).finds path in
      ap₂ {C = Entry} entry_of (refusals e f h) (answers e f h)

  pub same-content : (path out : List ℕ) (a b : Content) (after again : List ℕ) → Reads s path out a after → Reads t path out b again
      → (a ≡ b) × (after ≡ again)
  same-content path out a b after again e f =
      let h = (two-images s t agree).reads path out in
      (ap₂ {C = Content} content_of (refusals e f h) (answers e f h), outputs e f h)

  pub same-listed : (slot : ℕ) (out : List ℕ) (a b : Listed) (after again : List ℕ) → Lists s slot out a after → Lists t slot out b again
      → (a ≡ b) × (after ≡ again)
  same-listed slot out a b after again e f =
      let h = (two-images s t agree).lists slot out in
      (ap₂ {C = Listed} listed_of (refusals e f h) (answers e f h), outputs e f h)

  pub same-records : (slot : ℕ) (out : List ℕ) (a b : Records) (after again : List ℕ) → ListsAll s slot out a after → ListsAll t slot out b again
      → (a ≡ b) × (after ≡ again)
  same-records slot out a b after again e f =
      let h = all_alike s t (two-images s t agree).lists slot out in
      (ap₂ {C = Records} records_of (refusals e f h) (answers e f h), outputs e f h)
