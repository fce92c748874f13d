-- That a region stands for a journal with bulk lines.
use Rattle.std.specs.Prelude.{◌≡◌, ℕ}
use Rattle.hib_rw_region.specs.Stands.{IsRegion}
use Rattle.hib_bulk_law.specs.Plain.{Bulked, plain}
use Rattle.hib_bulk_law.specs.Wide.{wide_holders, wide_unlock}
use Rattle.hib_bulk_region.specs.Region.{BulkState}

pub record IsBulkRegion (state : BulkState) (n : ℕ) (h : Bulked) : Type 0 where
  -- it is held by as many lines, and was given back when the journal says
  pub holders : state.holders ≡ wide_holders n h
  pub unlock : state.unlock ≡ wide_unlock n h
  -- and the region inside stands for what the journal is to everybody else
  pub stands : IsRegion state.inner n (plain h)
