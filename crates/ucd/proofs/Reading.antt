-- Lines read one after the other. Assumes nothing.
use Rattle.std.proofs.Common.{◌≡◌, ℕ, suc, ◌+◌, Bool, ◌⊎◌, List, [], ◌∷◌, ◌++◌, length, Some, None, Option, sym, refl, ap, ◌∙◌, subst, inl, inr, ⊎_elim, append_assoc, arith, length-append}
use Rattle.ranges.specs.Rows.{lookup}
use Rattle.ranges.specs.declared.range.Range.{Range}
use Rattle.std.proofs.lemmas.List.{get_or_append_left, get_or_at}
use Rattle.std.proofs.lemmas.Bool.{cases_lt, true≢false}
use Rattle.ucd.specs.Entries.{entry_of}
use Rattle.ucd.specs.Files.{fault_in, rows_with, SomeLine, Grown, Reads, ReadAll, Stopped, Loaded}
use Rattle.ucd.specs.Written.{Tells}
use Rattle.ucd.specs.declared.faults.Fault.{Fault}

module _ {V : Type 0} (listed : V → Option (List ℕ)) (meant : List ℕ → Option V) (shared : Bool) where
  -- one line more at the end
  reads_push : (room : ℕ) (ls : List (List ℕ)) (line : List ℕ) (number : ℕ) (before middle after : List (Range V)) → Reads meant shared room number ls before middle → fault_in room middle (number + length ls) (entry_of meant shared line) ≡ None → after ≡ rows_with middle (entry_of meant shared line) → Reads meant shared room number (ls ++ (line ∷ [])) before after
  reads_push room [] line number before middle after none taken left =
      let here : number + 0 ≡ number = omega arith in
      let accepted : fault_in room middle number (entry_of meant shared line) ≡ None = subst (λ n. fault_in room middle n (entry_of meant shared line) ≡ None) here taken in
      (ap (λ rows. fault_in room rows number (entry_of meant shared line)) (sym none) ∙ accepted, left ∙ ap (λ rows. rows_with rows (entry_of meant shared line)) none)
  reads_push room (l ∷ ls) line number before middle after read taken left =
      let on : number + length (l ∷ ls) ≡ suc number + length ls = omega arith in
      (read.0, reads_push room ls line (suc number) _ middle after read.1 (subst (λ n. fault_in room middle n (entry_of meant shared line) ≡ None) on taken) left)

  -- a line among those that were there, or the one that came
  either_line : (ls : List (List ℕ)) (line : List ℕ) (c : ℕ) (v : V) → SomeLine listed (ls ++ (line ∷ [])) c v → SomeLine listed ls c v ⊎ Tells listed line c v
  either_line ls line c v some =
      let Says : List ℕ → Type 0 = λ l. Tells listed l c v in
      ⊎_elim
      (λ there. inl (some.0, there, subst Says (get_or_append_left ls (line ∷ []) [] some.0 there) some.2))
      (λ last. let here : length ls ≡ some.0 = omega (arith, some.1, length-append ls (line ∷ [])) in inr (subst Says (get_or_at ls line [] [] some.0 here) some.2))
      (cases_lt some.0 (length ls))

  earlier_line : (ls : List (List ℕ)) (line : List ℕ) (c : ℕ) (v : V) → SomeLine listed ls c v → SomeLine listed (ls ++ (line ∷ [])) c v
  earlier_line ls line c v some =
      let Says : List ℕ → Type 0 = λ l. Tells listed l c v in
      (some.0, omega (arith, some.1, length-append ls (line ∷ [])), subst Says (sym (get_or_append_left ls (line ∷ []) [] some.0 some.1)) some.2)

  last_line : (ls : List (List ℕ)) (line : List ℕ) (c : ℕ) (v : V) → Tells listed line c v → SomeLine listed (ls ++ (line ∷ [])) c v
  last_line ls line c v here =
      let Says : List ℕ → Type 0 = λ l. Tells listed l c v in
      (length ls, omega (arith, length-append ls (line ∷ [])), subst Says (sym (get_or_at ls line [] [] (length ls) refl)) here)

  -- what the lines list is in the rows, and one line more
  grown_push : (ls : List (List ℕ)) (line : List ℕ) (before middle after : List (Range V)) → Grown (SomeLine listed ls) before middle → Grown (Tells listed line) middle after → Grown (SomeLine listed (ls ++ (line ∷ []))) before after
  grown_push ls line before middle after first next = record {
    stays = λ c v found. next.stays c v (first.stays c v found);
    gains = λ c v some. ⊎_elim (λ there. next.stays c v (first.gains c v there)) (next.gains c v) (either_line ls line c v some);
    only = λ c v found. ⊎_elim (λ there. ⊎_elim inl (λ some. inr (earlier_line ls line c v some)) (first.only c v there)) (λ here. inr (last_line ls line c v here)) (next.only c v found);
  }

  -- so many lines were read, and these are left
  pub record Sofar (room : ℕ) (ls left : List (List ℕ)) (number : ℕ) (before after : List (Range V)) : Type 0 where
    pub seen : List (List ℕ)
    pub split : ls ≡ seen ++ left
    pub count : number ≡ length seen
    pub read : Reads meant shared room 1 seen before after
    pub values : Grown (SomeLine listed seen) before after

  pub sofar_more : (room : ℕ) (ls left behind : List (List ℕ)) (line : List ℕ) (number i : ℕ) (before middle after : List (Range V)) → Sofar room ls left number before middle → left ≡ line ∷ behind → i ≡ number → fault_in room middle (i + 1) (entry_of meant shared line) ≡ None → after ≡ rows_with middle (entry_of meant shared line) → Grown (Tells listed line) middle after → Sofar room ls behind (i + 1) before after
  sofar_more room ls left behind line number i before middle after h first here taken rows grown = record {
    seen = h.seen ++ (line ∷ []);
    split = h.split ∙ ap (λ l. h.seen ++ l) first ∙ sym (append_assoc h.seen (line ∷ []) behind);
    count = omega (arith, here, h.count, length-append h.seen (line ∷ []));
    read = (
        let number_is : i + 1 ≡ 1 + length h.seen = omega (arith, here, h.count) in
        reads_push room h.seen line 1 before middle after h.read (subst (λ n. fault_in room middle n (entry_of meant shared line) ≡ None) number_is taken) rows
        );
    values = grown_push h.seen line before middle after h.values grown;
  }

  -- a line was refused
  pub sofar_stopped : (room : ℕ) (ls left behind : List (List ℕ)) (line : List ℕ) (number i : ℕ) (before after : List (Range V)) (fault : Fault) → Sofar room ls left number before after → left ≡ line ∷ behind → i ≡ number → fault_in room after (i + 1) (entry_of meant shared line) ≡ Some fault → Stopped meant shared room ls before after fault
  sofar_stopped room ls left behind line number i before after fault h first here refused = record {
    seen = h.seen;
    line = line;
    unseen = behind;
    split = h.split ∙ ap (λ l. h.seen ++ l) first;
    read = h.read;
    refused = (
        let number_is : i + 1 ≡ suc (length h.seen) = omega (arith, here, h.count) in
        subst (λ n. fault_in room after n (entry_of meant shared line) ≡ Some fault) number_is refused
        );
  }

  -- a table that was filled from nothing
  pub loaded : (room : ℕ) (ls : List (List ℕ)) (before rows : List (Range V)) (number : ℕ) → before ≡ [] → ReadAll listed meant shared room ls before rows number → Loaded listed meant shared room ls rows number
  loaded room ls before rows number none h = record {
    count = h.count;
    read = subst (λ b. Reads meant shared room 1 ls b rows) none h.read;
    has = h.values.gains;
    only = λ c v found. ⊎_elim (λ old. absurd (unlisted c v (ap (λ b. lookup b c) (sym none) ∙ old))) (λ some. some) (h.values.only c v found);
  }
    where
      unlisted : (c : ℕ) (v : V) → ◌≡◌ {A = Option V} None (Some v) → ⊥
      unlisted c v e = true≢false cc
