-- A page header is read from its own bytes.
use Rattle.std.proofs.Common.{◌≡◌, List, ℕ, false, Option, Some, None, ◌++◌}
use Rattle.parquet_thrift.specs.Front.{ReadsFront}
use Rattle.parquet_thrift.proofs.Fronts.{extends}
use Rattle.parquet_meta.specs.declared.page_header.PageHeader.{PageHeader}
use Rattle.parquet_meta.specs.Fault.{IsFaultOf}
use Rattle.parquet_meta.specs.PageHeader.{header, page_header}
use Rattle.parquet_meta.specs.declared.fault.Fault.{Fault}
use Rattle.parquet_meta.specs.declared.fault.Fault.TheVariants as faults
use Rattle.parquet_meta.proofs.StructFronts.{by_struct_rule-front}

pub page_header-front : ReadsFront 1 page_header
unfolding page_header
page_header-front = by_struct_rule-front header

pub page_header-extends : (bytes more : List ℕ) (x : PageHeader × List ℕ) → page_header bytes ≡ Some x → page_header (bytes ++ more) ≡ Some (x.0, x.1 ++ more)
page_header-extends = extends 1 page_header page_header-front

pub ruleset page_header_laws = (page_header-front, page_header-extends)

-- what takes no memory is refused only where nothing is spelled
pub refuses_none : {A : Type 0} (e : Fault) (o : Option A) → IsFaultOf false e o → o ≡ None
refuses_none faults.OutOfMemory o r = cc
refuses_none faults.Unspelled o r = r
