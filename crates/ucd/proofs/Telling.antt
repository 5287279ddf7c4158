-- What a line lists is what it is written to list. Assumes nothing.
use Rattle.std.proofs.Common.{◌≡◌, ℕ, ◌≤◌, Bool, true, false, cond, ltb, leb, List, length, Some, None, Ok, Err, Option, Result, refl, ap, ◌∙◌, inl, inr, ⊎_elim, arith}
use Rattle.ranges.specs.declared.range.Range.{Range}
use Rattle.std.proofs.lemmas.Bool.{and_from, and_parts, le-leb, leb-true, ltb-false, true≢false}
use Rattle.std.specs.List.{prefix_len}
use Rattle.ucd.specs.Bytes.{Uncommented, is}
use Rattle.ucd.specs.Entries.{blamed, known, value_field, with_value, with_range, with_parts, entry_of}
use Rattle.ucd.specs.Files.{Grown}
use Rattle.ucd.specs.Lines.{Part, Layout, blank, listing, whole, layout, parts_at}
use Rattle.ucd.specs.Points.{range_of}
use Rattle.ucd.specs.Written.{Tells}
use Rattle.ucd.specs.declared.faults.LineFault.{LineFault}
use Rattle.ucd.specs.declared.faults.Reason.{Reason}
use Rattle.ucd.specs.declared.faults.Reason.TheVariants.{LongLine}
use Rattle.ucd.specs.declared.listings.Listing.{Listing}
use Rattle.ucd.proofs.Growth.{ListsValue, grown_by_nothing}
use Rattle.ucd.proofs.Ranges.{read_spelled, spelled}
use Rattle.ucd.proofs.Shapes.{listing_written, written_listing}

module _ {V : Type 0} (meant : List ℕ → Option V) (shared : Bool) where
  -- the parts, the ends and the value that a range was read from
  pub record Source (line : List ℕ) (range : Range V) : Type 0 where
    pub r : Part
    pub v : Part
    pub c : Part
    pub laid : layout line ≡ Ok (listing r v c)
    pub ends : range_of r.text ≡ Ok (range.first, range.last)
    pub named : meant v.text ≡ Some range.value

  source : (line : List ℕ) (kept : Listing V) → entry_of meant shared line ≡ Ok (Some kept) → Source line kept.range
  source line kept e = by_layout (layout line) refl e
    where
      by_value : (r v c : Part) (x : ℕ × ℕ) (o : Option V) → layout line ≡ Ok (listing r v c) → range_of r.text ≡ Ok x → meant v.text ≡ o → with_value r.start x (known shared v.start o) ≡ Ok (Some kept) → Source line kept.range
      by_value r v c x (Some w) laid ends named e =
          let same : record { first = x.0; last = x.1; value = w } ≡ kept.range = cc in
          record {
            r = r;
            v = v;
            c = c;
            laid = laid;
            ends = ends ∙ (λ i. Ok ((same i).first, (same i).last));
            named = named ∙ ap (λ (y : Range V). Some y.value) same;
          }
      by_value r v c x None laid ends named e = by_shared shared e
        where
          by_shared : (b : Bool) → with_value {V = V} r.start x (known b v.start None) ≡ Ok (Some kept) → Source line kept.range
          by_shared true e = absurd (true≢false cc)
          by_shared false e = absurd (true≢false cc)

      by_range : (r v c : Part) (x : Result (ℕ × ℕ) Reason) → layout line ≡ Ok (listing r v c) → range_of r.text ≡ x → with_range r.start (blamed r.start x) (value_field meant shared v) ≡ Ok (Some kept) → Source line kept.range
      by_range r v c (Ok x) laid ends e = by_value r v c x (meant v.text) laid ends refl e
      by_range r v c (Err why) laid ends e = absurd (true≢false cc)

      by_layout : (x : Result Layout LineFault) → layout line ≡ x → with_parts meant shared x ≡ Ok (Some kept) → Source line kept.range
      by_layout (Ok (blank c)) laid e = absurd (true≢false cc)
      by_layout (Ok (listing r v c)) laid e = by_range r v c (range_of r.text) laid refl e
      by_layout (Err fault) laid e = absurd (true≢false cc)

  -- a line that was read is not too long
  short_enough : (line : List ℕ) (entry : Option (Listing V)) → entry_of meant shared line ≡ Ok entry → length line ≤ 1024
  short_enough line entry e = by_case (ltb 1024 (length line)) refl e
    where
      by_case : (b : Bool) → ltb 1024 (length line) ≡ b → with_parts meant shared (cond b (Err (whole LongLine)) (parts_at line (prefix_len (is Uncommented) line))) ≡ Ok entry → length line ≤ 1024
      by_case true long e = absurd (true≢false cc)
      by_case false short e = ltb-false 1024 (length line) short

  module _ (listed : V → Option (List ℕ)) where
    -- what is read is written
    lists_tells : ((name : List ℕ) (v : V) → meant name ≡ Some v → listed v ≡ Some name) → (line : List ℕ) (c : ℕ) (v : V) → ListsValue meant shared line c v → Tells listed line c v
    lists_tells told line c v (kept, entry, here, is-value) =
        let range = kept.range in
        let s = source line kept entry in
        let w = listing_written line s.r s.v s.c s.laid in
        let x = spelled s.r.text (range.first, range.last) s.ends in
        let test = and_parts (leb range.first c) (leb c range.last) here in
        record {
          range = s.r.text;
          name = s.v.text;
          first = range.first;
          last = range.last;
          written = w.1;
          spelled = x.0;
          from = leb-true range.first c test.0;
          to = leb-true c range.last test.1;
          high = x.2;
          named = told s.v.text v (s.named ∙ ap Some is-value);
        }

    -- what is written is read
    tells_lists : ((name : List ℕ) (v : V) → listed v ≡ Some name → meant name ≡ Some v) → (line : List ℕ) (entry : Option (Listing V)) → entry_of meant shared line ≡ Ok entry → (c : ℕ) (v : V) → Tells listed line c v → ListsValue meant shared line c v
    tells_lists found line entry is-entry c v t =
        let parts = written_listing line t.range t.name (short_enough line entry is-entry) t.written in
        let r = parts.0 in
        let p = parts.1 in
        let ends : range_of r.text ≡ Ok (t.first, t.last) = ap range_of parts.4 ∙ read_spelled t.range t.first t.last t.spelled (omega (arith, t.from, t.to)) t.high in
        let named : meant p.text ≡ Some v = ap meant parts.5 ∙ found t.name v t.named in (
          record { range = record { first = t.first; last = t.last; value = v }; place = r.start },
          ap (with_parts meant shared) parts.3 ∙ (λ i. with_range r.start (blamed r.start (ends i)) (known shared p.start (named i))),
          and_from _ _ (le-leb t.first c t.from) (le-leb c t.last t.to),
          refl,
        )

    -- the same growth, told as the line is written
    pub grown_told : ((name : List ℕ) (v : V) → meant name ≡ Some v → listed v ≡ Some name) → ((name : List ℕ) (v : V) → listed v ≡ Some name → meant name ≡ Some v) → (line : List ℕ) (entry : Option (Listing V)) → entry_of meant shared line ≡ Ok entry → (before after : List (Range V)) → Grown (ListsValue meant shared line) before after → Grown (Tells listed line) before after
    grown_told told found line entry is-entry before after h = record {
      stays = h.stays;
      gains = λ c v t. h.gains c v (tells_lists found line entry is-entry c v t);
      only = λ c v e. ⊎_elim inl (λ l. inr (lists_tells told line c v l)) (h.only c v e);
    }

    -- a line that lists nothing
    pub told_nothing : ((name : List ℕ) (v : V) → meant name ≡ Some v → listed v ≡ Some name) → ((name : List ℕ) (v : V) → listed v ≡ Some name → meant name ≡ Some v) → (line : List ℕ) → entry_of meant shared line ≡ Ok None → (rows : List (Range V)) → Grown (Tells listed line) rows rows
    told_nothing told found line is-entry rows = grown_told told found line None is-entry rows rows (grown_by_nothing meant shared line rows is-entry)
