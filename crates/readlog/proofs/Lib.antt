pub mod CountLaws
pub mod SweptLaws
pub mod CompactLaws
