pub mod FieldLemmas
pub mod FormNames
pub mod RoomLemmas
