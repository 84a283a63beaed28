-- Pages are read from their own bytes.
use Rattle.std.proofs.Common.{◌≡◌, ℕ, zero, suc, ◌+◌, ◌-◌, ◌≤◌, eqb, leb, Bool, true, false, List, [], ◌∷◌, ◌++◌, length, take, drop, Option, Some, None, refl, sym, ap, subst, ◌∙◌, arith, append_assoc, length-append}
use Rattle.std.specs.Prelude.{IfSome, All}
use Rattle.std.specs.List.{AllByRecursion}
use Rattle.std.specs.Option.{option_map_or}
use Rattle.std.proofs.Math.Seq.{take-append-add, take-append_seam, drop-append_seam}
use Rattle.std.proofs.lemmas.Bool.{le-leb, leb-true, eq-eqb, ne_eqb}
use Rattle.std.proofs.lemmas.List.{length-drop, length-take-le, take-append-drop, drop-drop, append-nil}
use Rattle.parquet_base.specs.Reading.{◌>>=◌, given}
use Rattle.parquet_thrift.specs.Front.{IsAtFront, ReadsFront}
use Rattle.parquet_meta.proofs.PageHeaderLemmas.{page_header-front}
use Rattle.parquet_meta.specs.PageHeader.{page_header}
use Rattle.parquet_meta.specs.declared.page_header.DataPageHeader.{DataPageHeader}
use Rattle.parquet_meta.specs.declared.page_header.PageHeader.{PageHeader}
use Rattle.parquet_meta.specs.declared.page_header.PageKind.{PageKind}
use Rattle.parquet_meta.specs.declared.page_header.PageKind.TheVariants as kind
use Rattle.parquet_page.specs.Alone.{IsDictionaryReadAlone, IsReadAlone}
use Rattle.parquet_page.specs.Chunk.{AnyPage, ChunkPage, Defined, DictionaryPage, NoDictionary, PageWalk, chunk_dictionary, chunk_pages, as_data_header, data_page_at, dictionary_at, dictionary_page, dictionary_size, if_defined, page_at, pages_from, placed_pages, walk_on}
use Rattle.parquet_page.specs.Content.{header_values}
use Rattle.parquet_page.specs.Located.{dictionary_in, located_page, page_in}
use Rattle.parquet_encoding.proofs.StepLemmas.{bind_some, given_some}
use Rattle.parquet_page.proofs.HeaderLemmas.{dictionary_measured}

-- a header and its body, with the bytes before a rest
body_front : (bytes : List ℕ) (header : PageHeader) (behind : List ℕ) → IsAtFront page_header 1 bytes (header, behind) → header.size ≤ length behind
    → IsAtFront page_at 1 bytes (record { kind = header.kind; body = take header.size behind }, drop header.size behind)
unfolding page_at
body_front bytes header behind at room =
    let body = take header.size behind in
    let size : length body ≡ header.size = length-take-le header.size behind room in
    record {
      front = at.front ++ body;
      whole = at.whole ∙ ap (λ rest. at.front ++ rest) (sym (take-append-drop header.size behind)) ∙ sym (append_assoc at.front body (drop header.size behind));
      some = omega (arith, at.some, length-append at.front body);
      same = λ more.
          let read : page_header ((at.front ++ body) ++ more) ≡ Some (header, body ++ more) = ap page_header (append_assoc at.front body more) ∙ at.same (body ++ more) in
          let enough : leb header.size (length (body ++ more)) ≡ true = le-leb _ _ (omega (arith, size, length-append body more)) in
          let own : take header.size (body ++ more) ≡ body = ap (λ n. take n (body ++ more)) (sym size) ∙ take-append_seam body more in
          let rest : drop header.size (body ++ more) ≡ more = ap (λ n. drop n (body ++ more)) (sym size) ∙ drop-append_seam body more in
          rw (read, enough, own, rest) refl;
    }

page_front : ReadsFront 1 page_at
unfolding page_at
page_front bytes = go (page_header bytes) (page_header-front bytes) where
  within : (header : PageHeader) (behind : List ℕ) → IsAtFront page_header 1 bytes (header, behind) → (b : Bool) → leb header.size (length behind) ≡ b
      → IfSome (given b (record { kind = header.kind; body = take header.size behind }, drop header.size behind)) (IsAtFront page_at 1 bytes)
  within header behind at false e = tt
  within header behind at true e = body_front bytes header behind at (leb-true _ _ e)

  go : (o : Option (PageHeader × List ℕ)) → IfSome o (IsAtFront page_header 1 bytes)
      → IfSome (o >>= λ header. given (leb header.0.size (length header.1)) (record { kind = header.0.kind; body = take header.0.size header.1 }, drop header.0.size header.1)) (IsAtFront page_at 1 bytes)
  go None at = tt
  go (Some header) at = within header.0 header.1 at (leb header.0.size (length header.1)) refl

-- how many bytes stand before a rest
pub before_rest : (front rest bytes : List ℕ) → bytes ≡ front ++ rest → length bytes - length rest ≡ length front
before_rest front rest bytes e = let whole = ap length e in omega (arith, whole, length-append front rest)

-- ---- data pages

data_read : (left : ℕ) (bytes rest : List ℕ) (header : DataPageHeader) (body : List ℕ) → page_at bytes ≡ Some (record { kind = kind.Data header; body = body }, rest) → leb (header_values header) left ≡ true
    → data_page_at left bytes ≡ Some (record { size = length bytes - length rest; header = header; body = body }, rest)
unfolding data_page_at
data_read left bytes rest header body e few = rw (e, few) refl

data_here : (left : ℕ) (bytes rest : List ℕ) (header : DataPageHeader) (body : List ℕ) → IsAtFront page_at 1 bytes (record { kind = kind.Data header; body = body }, rest) → leb (header_values header) left ≡ true
    → IsAtFront (data_page_at left) 1 bytes (record { size = length bytes - length rest; header = header; body = body }, rest)
data_here left bytes rest header body at few =
    let size = before_rest at.front rest bytes at.whole in
    record {
      front = at.front;
      whole = at.whole;
      some = at.some;
      same = λ more.
          data_read left (at.front ++ more) more header body (at.same more) few
          ∙ ap (λ n. Some (record { size = n; header = header; body = body }, more)) (before_rest at.front more (at.front ++ more) refl ∙ sym size);
    }

pub data_front : (left : ℕ) → ReadsFront 1 (data_page_at left)
unfolding data_page_at
data_front left bytes = go (page_at bytes) (page_front bytes) where
  of_header : (rest : List ℕ) (header : DataPageHeader) (body : List ℕ) → IsAtFront page_at 1 bytes (record { kind = kind.Data header; body = body }, rest) → (b : Bool) → leb (header_values header) left ≡ b
      → IfSome (given b (record { size = length bytes - length rest; header = header; body = body }, rest)) (IsAtFront (data_page_at left) 1 bytes)
  of_header rest header body at false few = tt
  of_header rest header body at true few = data_here left bytes rest header body at few

  of_kind : (rest : List ℕ) (page_kind : PageKind) (body : List ℕ) → IsAtFront page_at 1 bytes (record { kind = page_kind; body = body }, rest)
      → IfSome (as_data_header page_kind >>= λ header. given (leb (header_values header) left) (record { size = length bytes - length rest; header = header; body = body }, rest)) (IsAtFront (data_page_at left) 1 bytes)
  of_kind rest (kind.Data header) body at = of_header rest header body at (leb (header_values header) left) refl
  of_kind rest (kind.Dictionary values encoding) body at = tt

  go : (o : Option (AnyPage × List ℕ)) → IfSome o (IsAtFront page_at 1 bytes)
      → IfSome (o >>= λ page. as_data_header page.0.kind >>= λ header. given (leb (header_values header) left) (record { size = length bytes - length page.1; header = header; body = page.0.body }, page.1)) (IsAtFront (data_page_at left) 1 bytes)
  go None at = tt
  go (Some page) at = of_kind page.1 page.0.kind page.0.body at

-- ---- dictionary pages

dictionary_read : (bytes rest : List ℕ) (page_kind : PageKind) (body : List ℕ) → page_at bytes ≡ Some (record { kind = page_kind; body = body }, rest)
    → dictionary_at bytes ≡ (dictionary_page (length bytes - length rest) page_kind body >>= λ dictionary. Some (dictionary, rest))
unfolding dictionary_at
dictionary_read bytes rest page_kind body e = rw e refl

pub dictionary_front : ReadsFront 1 dictionary_at
unfolding dictionary_at
dictionary_front bytes = go (page_at bytes) (page_front bytes) where
  of_kind : (rest : List ℕ) (page_kind : PageKind) (body : List ℕ) → IsAtFront page_at 1 bytes (record { kind = page_kind; body = body }, rest)
      → IfSome (dictionary_page (length bytes - length rest) page_kind body >>= λ dictionary. Some (dictionary, rest)) (IsAtFront dictionary_at 1 bytes)
  of_kind rest (kind.Data header) body at = tt
  of_kind rest (kind.Dictionary values encoding) body at =
      let size = before_rest at.front rest bytes at.whole in
      record {
        front = at.front;
        whole = at.whole;
        some = at.some;
        same = λ more.
            dictionary_read (at.front ++ more) more (kind.Dictionary values encoding) body (at.same more)
            ∙ ap (λ n. Some (record { size = n; num_values = values; encoding = encoding; body = body }, more)) (before_rest at.front more (at.front ++ more) refl ∙ sym size);
      }

  go : (o : Option (AnyPage × List ℕ)) → IfSome o (IsAtFront page_at 1 bytes)
      → IfSome (o >>= λ page. dictionary_page (length bytes - length page.1) page.0.kind page.0.body >>= λ dictionary. Some (dictionary, page.1)) (IsAtFront dictionary_at 1 bytes)
  go None at = tt
  go (Some page) at = of_kind page.1 page.0.kind page.0.body at

-- the part before a place has the whole dictionary page, and what stands behind the page does not matter
dictionary_begins : (bytes front rest : List ℕ) (page : DictionaryPage) (first : ℕ) → bytes ≡ front ++ rest → 1 ≤ length front → ((more : List ℕ) → dictionary_at (front ++ more) ≡ Some (page, more)) → length front ≤ first → dictionary_in (take first bytes) ≡ Defined page
dictionary_begins bytes front rest page first whole some same enough =
    let behind = first - length front in
    let at : first ≡ length front + behind = omega (arith, enough) in
    let part : take first bytes ≡ front ++ take behind rest = ap (take first) whole ∙ ap (λ n. take n (front ++ rest)) at ∙ take-append-add front rest behind in
    let full : eqb (length (front ++ take behind rest)) 0 ≡ false = ne_eqb _ _ (λ e. omega (arith, e, length-append front (take behind rest), some)) in
    rw (part, full, same (take behind rest)) refl

pub dictionary_alone : (chunk : List ℕ) (page : DictionaryPage) → chunk_dictionary chunk ≡ Defined page → IsDictionaryReadAlone chunk page
dictionary_alone chunk page = go (dictionary_at chunk) (dictionary_front chunk) refl where
  is_defined : (x y : DictionaryPage) → Defined x ≡ Defined y → x ≡ y
  is_defined x y e = cc

  go : (o : Option (DictionaryPage × List ℕ)) → IfSome o (IsAtFront dictionary_at 1 chunk) → dictionary_at chunk ≡ o → if_defined o NoDictionary ≡ Defined page → IsDictionaryReadAlone chunk page
  go None at e is = absurd cc
  go (Some read) at e is = λ first size within.
      let own = is_defined read.0 page is in
      let long = (dictionary_measured chunk read e).size ∙ before_rest at.front read.1 chunk at.whole in
      let enough : length at.front ≤ first = omega (arith, long, ap (λ (p : DictionaryPage). p.size) own, size) in
      rw (le-leb _ _ within) (dictionary_begins chunk at.front read.1 page first at.whole at.some (λ more. at.same more ∙ ap (λ p. Some (p, more)) own) enough)

-- ---- the pages of a chunk

-- a page at the front of bytes, in a part of its own
record OwnPart (bytes : List ℕ) (page : ChunkPage) (rest : List ℕ) : Type 0 where
  part : List ℕ
  whole : bytes ≡ part ++ rest
  size : page.size ≡ length part
  alone : page_in part (header_values page.header) ≡ Some page

-- a page that holds so many values at most has as many as it has
pub exact_read : (left : ℕ) (bytes : List ℕ) (page : ChunkPage) (rest : List ℕ) → data_page_at left bytes ≡ Some (page, rest)
    → (data_page_at (header_values page.header) bytes ≡ Some (page, rest)) × (page.size ≡ length bytes - length rest)
unfolding data_page_at
exact_read left bytes page rest e =
    let read = bind_some (page_at bytes) (λ page. as_data_header page.0.kind >>= λ header. given (leb (header_values header) left) (record { size = length bytes - length page.1; header = header; body = page.0.body }, page.1)) (page, rest) e in
    let header = bind_some (as_data_header read.0.0.kind) (λ header. given (leb (header_values header) left) (record { size = length bytes - length read.0.1; header = header; body = read.0.0.body }, read.0.1)) (page, rest) read.2 in
    let same = (given_some _ _ (page, rest) header.2).1 in
    let own : page.header ≡ header.0 = ap (λ (p : ChunkPage × List ℕ). p.0.header) (sym same) in
    let values = header_values page.header in
    let few : leb (header_values header.0) values ≡ true = le-leb _ _ (omega (arith, ap header_values own)) in
    let found = ap (λ (o : Option (AnyPage × List ℕ)). o >>= λ page. as_data_header page.0.kind >>= λ header. given (leb (header_values header) values) (record { size = length bytes - length page.1; header = header; body = page.0.body }, page.1)) read.1 in
    let with_header = ap (λ (o : Option DataPageHeader). o >>= λ header. given (leb (header_values header) values) (record { size = length bytes - length read.0.1; header = header; body = read.0.0.body }, read.0.1)) header.1 in (
      found ∙ with_header ∙ ap (λ b. given b (record { size = length bytes - length read.0.1; header = header.0; body = read.0.0.body }, read.0.1)) few ∙ ap Some same,
      ap (λ (p : ChunkPage × List ℕ). p.0.size) (sym same) ∙ ap (λ (p : ChunkPage × List ℕ). length bytes - length p.1) same,
    )

alone_in : (part : List ℕ) (page : ChunkPage) → data_page_at (header_values page.header) part ≡ Some (page, []) → page_in part (header_values page.header) ≡ Some page
unfolding page_in
alone_in part page e = rw (e, eq-eqb (header_values page.header) (header_values page.header) refl) refl

own_part : (left : ℕ) (bytes : List ℕ) (page : ChunkPage) (rest : List ℕ) → data_page_at left bytes ≡ Some (page, rest) → OwnPart bytes page rest
own_part left bytes page rest e =
    let at = subst (λ (o : Option (ChunkPage × List ℕ)). IfSome o (IsAtFront (data_page_at left) 1 bytes)) e (data_front left bytes) in
    let there = exact_read left at.front page [] (ap (data_page_at left) (sym (append-nil at.front)) ∙ at.same []) in
    record { part = at.front; whole = at.whole; size = (exact_read left bytes page rest e).1 ∙ before_rest at.front rest bytes at.whole; alone = alone_in at.front page there.0 }

walked_on : (chunk : List ℕ) (left start row : ℕ) → start ≤ length chunk → (further : ChunkPage → List ℕ → PageWalk)
    → ((page : ChunkPage) (rest : List ℕ) → rest ≡ drop (start + page.size) chunk → start + page.size ≤ length chunk
    → AllByRecursion (IsReadAlone chunk) (placed_pages (start + page.size) (row + header_values page.header) (further page rest).pages))
    → (o : Option (ChunkPage × List ℕ)) → data_page_at left (drop start chunk) ≡ o → AllByRecursion (IsReadAlone chunk) (placed_pages start row (walk_on o further).pages)
unfolding located_page
walked_on chunk left start row low further step None e = tt
walked_on chunk left start row low further step (Some read) e =
    let page = read.0 in
    let rest = read.1 in
    let own = own_part left (drop start chunk) page rest e in
    let lengths = ap length own.whole in
    let fits : start + page.size ≤ length chunk = omega (arith, lengths, length-append own.part rest, length-drop start chunk, own.size, low) in
    let size : start + page.size - start ≡ page.size = omega arith in
    let part : take page.size (drop start chunk) ≡ own.part = ap (λ n. take n (drop start chunk)) own.size ∙ ap (take (length own.part)) own.whole ∙ take-append_seam own.part rest in
    let behind : rest ≡ drop (start + page.size) chunk =
    sym (drop-append_seam own.part rest) ∙ sym (ap (drop (length own.part)) own.whole) ∙ sym (ap (λ n. drop n (drop start chunk)) own.size) ∙ drop-drop page.size start chunk in
    (rw (le-leb _ _ fits, size, part) own.alone, step page rest behind fits)

walked : (chunk : List ℕ) (limit left start row : ℕ) → start ≤ length chunk → AllByRecursion (IsReadAlone chunk) (placed_pages start row (pages_from limit left (drop start chunk)).pages)
unfolding pages_from
walked chunk zero zero start row low = tt
walked chunk (suc limit) zero start row low = tt
walked chunk zero (suc left) start row low = tt
walked chunk (suc limit) (suc left) start row low =
    walked_on chunk (suc left) start row low (λ page rest. pages_from limit (suc left - header_values page.header) rest)
    (λ page rest behind fits. subst (λ (found : List ℕ). AllByRecursion (IsReadAlone chunk) (placed_pages (start + page.size) (row + header_values page.header) (pages_from limit (suc left - header_values page.header) found).pages)) (sym behind)
    (walked chunk limit (suc left - header_values page.header) (start + page.size) (row + header_values page.header) fits))
    (data_page_at (suc left) (drop start chunk)) refl

dictionary_fits : (chunk : List ℕ) → dictionary_size chunk ≤ length chunk
dictionary_fits chunk = go (dictionary_at chunk) refl where
  go : (o : Option (DictionaryPage × List ℕ)) → dictionary_at chunk ≡ o → option_map_or (λ (read : DictionaryPage × List ℕ). read.0.size) o 0 ≤ length chunk
  go None e = omega arith
  go (Some read) e = let measured = dictionary_measured chunk read e in omega (arith, measured.size)

pub pages_alone : (chunk : List ℕ) (count : ℕ) → AllByRecursion (IsReadAlone chunk) (placed_pages (dictionary_size chunk) 0 (chunk_pages count chunk).pages)
unfolding chunk_pages
pages_alone chunk count = walked chunk (length chunk) count (dictionary_size chunk) 0 (dictionary_fits chunk)

pub each_alone : {X : Type 0} (P : X → Type 0) (xs : List X) → AllByRecursion P xs → All P xs
each_alone P [] held k d h = absurd (omega arith)
each_alone P (x ∷ xs) held zero d h = held.0
each_alone P (x ∷ xs) held (suc k) d h = each_alone P xs held.1 k d (omega arith)
