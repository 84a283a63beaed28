-- Pages at the front of bytes.
use Rattle.std.proofs.Common.{◌≡◌, ℕ, ◌+◌, ◌-◌, ◌<◌, ◌≤◌, leb, true, List, length, take, drop, Option, Some, None, refl, ap, subst, ◌∙◌, arith}
use Rattle.std.proofs.lemmas.Bool.{le-leb, lt-leb, leb-true}
use Rattle.std.proofs.Math.Seq.{take-length}
use Rattle.std.proofs.lemmas.List.{length-drop, drop-drop}
use Rattle.parquet_base.specs.Reading.{◌>>=◌, given, IsEnd, Takes}
use Rattle.parquet_base.proofs.EndLemmas.{IsEnd_drop, IsEnd_through}
use Rattle.parquet_encoding.proofs.StepLemmas.{bind_some, given_some, some_is}
use Rattle.parquet_thrift.proofs.Fronts.{front-ends, front-takes}
use Rattle.parquet_meta.proofs.PageHeaderLemmas.{page_header-front}
use Rattle.parquet_meta.specs.PageHeader.{page_header}
use Rattle.parquet_meta.specs.declared.page_header.PageHeader.{PageHeader}
use Rattle.parquet_meta.specs.declared.page_header.PageKind.TheVariants as kind
use Rattle.parquet_page.specs.Chunk.{AnyPage, ChunkPage, DictionaryPage, page_at, as_data_header, dictionary_page, data_page_at, dictionary_at}
use Rattle.parquet_page.specs.Content.{header_values}
use Rattle.parquet_page.specs.Found.{FoundAt}

-- ---- a shorter end of the bytes

pub record IsBehind (bytes rest : List ℕ) : Type 0 where
  pub end : IsEnd bytes rest
  pub shorter : length rest < length bytes

header_behind : (bytes : List ℕ) (read : PageHeader × List ℕ) → page_header bytes ≡ Some read → IsBehind bytes read.1
header_behind bytes read e =
    let takes : Takes 1 bytes (Some read) = subst (λ (o : Option (PageHeader × List ℕ)). Takes 1 bytes o) e (front-takes 1 page_header bytes (page_header bytes) (page_header-front bytes)) in
    record { end = front-ends 1 page_header page_header-front bytes read e; shorter = omega (arith, takes) }

pub page_behind : (bytes : List ℕ) (read : AnyPage × List ℕ) → page_at bytes ≡ Some read → IsBehind bytes read.1
unfolding page_at
page_behind bytes read e =
    let header = bind_some (page_header bytes) (λ header. given (leb header.0.size (length header.1)) (record { kind = header.0.kind; body = take header.0.size header.1 }, drop header.0.size header.1)) read e in
    let same = given_some _ _ read header.2 in
    let behind = header_behind bytes header.0 header.1 in
    let rest = IsEnd_drop header.0.0.size header.0.1 (leb-true _ _ same.0) in
    rw (← same.1) (record { end = IsEnd_through _ _ _ behind.end rest; shorter = omega (arith, behind.shorter, length-drop header.0.0.size header.0.1) })

pub data_page_behind : (left : ℕ) (bytes : List ℕ) (read : ChunkPage × List ℕ) → data_page_at left bytes ≡ Some read → IsBehind bytes read.1
unfolding data_page_at
data_page_behind left bytes read e =
    let page = bind_some (page_at bytes) (λ page. as_data_header page.0.kind >>= λ header. given (leb (header_values header) left) (record { size = length bytes - length page.1; header = header; body = page.0.body }, page.1)) read e in
    let header = bind_some (as_data_header page.0.0.kind) (λ header. given (leb (header_values header) left) (record { size = length bytes - length page.0.1; header = header; body = page.0.0.body }, page.0.1)) read page.2 in
    let same = given_some _ _ read header.2 in
    rw (← same.1) (page_behind bytes page.0 page.1)

-- a dictionary page, how long it is, and what stands behind it
pub record IsMeasured (bytes : List ℕ) (read : DictionaryPage × List ℕ) : Type 0 where
  pub behind : IsBehind bytes read.1
  pub size : read.0.size ≡ length bytes - length read.1

sized : (size : ℕ) (kind : _) (body : List ℕ) (page : DictionaryPage) → dictionary_page size kind body ≡ Some page → page.size ≡ size
sized size (kind.Dictionary values encoding) body page e = rw (← some_is _ page e) refl
sized size (kind.Data header) body page e = absurd cc

pub dictionary_measured : (bytes : List ℕ) (read : DictionaryPage × List ℕ) → dictionary_at bytes ≡ Some read → IsMeasured bytes read
unfolding dictionary_at
dictionary_measured bytes read e =
    let page = bind_some (page_at bytes) (λ page. dictionary_page (length bytes - length page.1) page.0.kind page.0.body >>= λ dictionary. Some (dictionary, page.1)) read e in
    let dictionary = bind_some (dictionary_page (length bytes - length page.0.1) page.0.0.kind page.0.0.body) (λ dictionary. Some (dictionary, page.0.1)) read page.2 in
    let same = given_some true (dictionary.0, page.0.1) read dictionary.2 in
    rw (← same.1) (record { behind = page_behind bytes page.0 page.1; size = sized _ _ _ dictionary.0 dictionary.1 })

-- what stands behind the dictionary page
pub behind_size : (bytes : List ℕ) (read : DictionaryPage × List ℕ) → dictionary_at bytes ≡ Some read → drop read.0.size bytes ≡ read.1
behind_size bytes read e = let measured = dictionary_measured bytes read e in ap (λ n. drop n bytes) measured.size ∙ measured.behind.end.ends

-- ---- finding a page

-- what stands from a place on, as a slice of the whole
pub from_place : {A : Type 0} (place : ℕ) (bytes : List A) → take (length bytes - place) (drop place bytes) ≡ drop place bytes
from_place place bytes = rw (← length-drop place bytes) (take-length (drop place bytes))

pub no_header : (bytes : List ℕ) → page_header bytes ≡ None → page_at bytes ≡ None
unfolding page_at
no_header bytes e = rw e refl

pub short_body : (bytes rest : List ℕ) (header : PageHeader) → page_header bytes ≡ Some (header, rest) → length rest < header.size → page_at bytes ≡ None
unfolding page_at
short_body bytes rest header e short = rw (e, lt-leb _ _ short) refl

pub finds : (bytes : List ℕ) (place : ℕ) (rest : List ℕ) (header : PageHeader) → place ≤ length bytes → page_header (drop place bytes) ≡ Some (header, rest) → header.size ≤ length rest
    → IsEnd (drop place bytes) rest → length rest < length (drop place bytes)
    → FoundAt bytes place (record { kind = header.kind; body = length bytes - length rest; end = length bytes - length rest + header.size })
unfolding page_at
finds bytes place rest header within e room end shorter =
    let long = length-drop place bytes in
    let whole = IsEnd_through bytes (drop place bytes) rest (IsEnd_drop place bytes within) end in
    let body : drop (length bytes - length rest) bytes ≡ rest = whole.ends in
    let size : length bytes - length rest + header.size - (length bytes - length rest) ≡ header.size = omega arith in
    record {
      value = rw (e, le-leb _ _ room, size, ← drop-drop header.size (length bytes - length rest) bytes, body) refl;
      after = omega (arith, long, shorter, within);
      inside = record { order = omega arith; within = omega (arith, whole.within, room) };
    }
