pub mod DatasetText
pub mod OrbitText
pub mod PrimitiveText
